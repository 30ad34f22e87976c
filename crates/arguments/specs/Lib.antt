-- What is promised of numbers that arguments write, and of settings that they ask for.
pub mod Numbers
pub mod Settings
