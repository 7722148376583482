-- Bytes that are read from the front: what was read, with the bytes behind it, or the first fault.
use Rattle.std.specs.Prelude.{◌≡◌, ◌++◌, ℕ, zero, suc, nat_lt, List, [], ◌∷◌, length, take, drop, Result, Ok, Err}
use Rattle.std.specs.Prelude.{if◌then◌else◌}
use Rattle.alpha_link.specs.declared.fault.ModuleFault.{ModuleFault}
use Rattle.alpha_link.specs.declared.fault.ModuleFault.TheVariants.{NoMemory, Cut}

abbrev pub Read : Type 0 → Type 0
Read X = Result (X × List ℕ) ModuleFault

-- what is read with what was read before, unless that was refused
abbrev pub and_then : {X Y : Type 0} → Result X ModuleFault → (X → Result Y ModuleFault) → Result Y ModuleFault
and_then (Ok x) f = f x
and_then (Err e) f = Err e

-- so many bytes, of a whole of `total` bytes
abbrev pub taken : ℕ → ℕ → List ℕ → Read (List ℕ)
taken total n bytes = if nat_lt (length bytes) n then Err (Cut total) else Ok (take n bytes, drop n bytes)

-- so many items, each of which is read by those before it
abbrev pub items_at : {X : Type 0} → (List X → List ℕ → Read X) → ℕ → List X → List ℕ → Read (List X)
items_at read zero before bytes = Ok (before, bytes)
items_at read (suc n) before bytes = and_then (read before bytes) (λ x. items_at read n (before ++ x.0 ∷ []) x.1)

-- a refusal is that of what is read; memory may run out in place of any answer
abbrev pub IsRefusal : {Y : Type 0} → ModuleFault → Result Y ModuleFault → Type 0
IsRefusal NoMemory read = Unit {0}
IsRefusal e read = read ≡ Err e

-- a result is what is read
abbrev pub Gives : {X Y : Type 0} → (X → Y) → Result X ModuleFault → Result Y ModuleFault → Type 0
Gives view (Ok x) read = read ≡ Ok (view x)
Gives view (Err e) read = IsRefusal e read
