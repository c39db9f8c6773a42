mod Queues
mod Ringings
mod Wakings
