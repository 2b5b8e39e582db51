mod Handing
mod HeldLemmas
