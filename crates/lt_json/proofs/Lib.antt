mod Items
mod Reading
