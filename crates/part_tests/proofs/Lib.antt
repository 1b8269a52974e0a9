mod Held
mod Returned
