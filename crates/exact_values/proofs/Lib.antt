mod Divisors
mod Lowest
mod Line
