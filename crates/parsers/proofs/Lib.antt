mod Rows
mod Numbers
mod Tags
mod Seen
mod Peeks
mod Ranges
