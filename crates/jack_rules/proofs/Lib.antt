mod Firsts
mod Reached
mod Rows
mod Choices
