mod Widths
mod Telling
