mod Bodies
mod Once
mod Made
mod Turned
mod Grown
mod Gathered
mod Put
