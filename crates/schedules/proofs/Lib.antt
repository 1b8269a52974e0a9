mod Foretelling
mod Meeting
