mod GoingOn
mod Marks
mod ReadThrough
