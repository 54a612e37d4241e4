mod Lists
mod Small
