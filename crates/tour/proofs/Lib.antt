mod Gathered
mod Gets
mod Reloads
