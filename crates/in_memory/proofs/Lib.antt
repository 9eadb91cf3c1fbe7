mod Digests
mod Opened
