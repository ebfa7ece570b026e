mod Checked
mod Finished
mod Refused
mod Replied
mod Shown
