mod Endings
mod Failures
mod Files
mod Named
mod Passing
