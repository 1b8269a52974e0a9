mod Printing
mod CoverPrinting
