pub mod Telling
mod Refused
mod Listed
mod Drawn
mod Gathered
mod Loosened
mod Held
mod HeldRules
mod HeldStream
mod Lining
mod Heading
mod AheadComputed
mod Flowing
mod Opened
mod Piecing
mod Handing
mod Following
