mod Counting
mod Making
mod Sent
