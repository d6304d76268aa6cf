mod Fronts
mod Walking
