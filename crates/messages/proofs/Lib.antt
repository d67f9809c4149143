pub mod Loop
mod Again
