mod Numbers
mod Bytes
mod Cut
mod Middle
mod FieldLemmas
