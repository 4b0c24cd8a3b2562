mod Changes
mod Ended
mod Fronts
mod Looks
mod Places
