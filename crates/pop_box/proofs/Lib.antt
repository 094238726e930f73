mod Served
mod Texts
