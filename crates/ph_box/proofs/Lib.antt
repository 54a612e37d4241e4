-- Corners of boxes as points of a width.
mod BoxPoints
