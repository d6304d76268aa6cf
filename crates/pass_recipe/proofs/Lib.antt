mod Members
mod Firsts
mod Settling
mod Greedy
mod Leaving
mod Listing
mod Arranging
