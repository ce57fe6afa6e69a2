mod Composing
mod Capping
