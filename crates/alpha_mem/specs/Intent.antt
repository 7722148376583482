-- What an access does.

-- a load reads memory, a store writes it
pub data Intent : Type 0 where
  Load : Intent
  Store : Intent
