-- What is called, one after the other, on a new file that is to take another one's name.
use Rattle.std.specs.Prelude.{◌≡◌, ⊤, List, [], ◌∷◌, ◌++◌, ℕ, Option, None, Some, Result, MatchResult}

-- a call that succeeded, a removal that was tried, or any other call that failed
pub data Call : Type 0 where
  Wrote : List ℕ → Call
  Synced : Call
  Renamed : Call
  Removed : Call
  Settled : Call
  Failed : Call

-- where calls are told, these came next
abbrev pub AppendsCalls : Option (List Call) → Option (List Call) → List Call → Type 0
AppendsCalls None new calls = ⊤
AppendsCalls (Some old) None calls = ⊥
AppendsCalls (Some old) (Some new) calls = new ≡ old ++ calls

-- this call came next, and failed at an `Err`
abbrev pub RecordsCall : {T E : Type 0} → Option (List Call) → Option (List Call) → Call → Result T E → Type 0
RecordsCall old new call result =
    MatchResult result (λ _. AppendsCalls old new (call ∷ [])) (λ _. AppendsCalls old new (Failed ∷ []))

-- the calls that end with the new file under the name: all bytes are written and synced before
abbrev pub replace_calls : List ℕ → List Call
replace_calls bytes = Wrote bytes ∷ Synced ∷ Renamed ∷ []

-- the same, and behind that the folder is stored, with the name
abbrev pub durable_replace_calls : List ℕ → List Call
durable_replace_calls bytes = Wrote bytes ∷ Synced ∷ Renamed ∷ Settled ∷ []

-- A front of the calls of `replace_calls` succeeded, and the next one failed; so the new file never had the name.
pub record FailsBeforeRename (old new : Option (List Call)) (bytes : List ℕ) : Type 0 where
  pub done : List Call
  pub next : Call
  pub rest : List Call
  pub front : done ++ next ∷ rest ≡ replace_calls bytes
  pub calls : AppendsCalls old new (done ++ Failed ∷ [])

-- The same, and it was removed behind that.
pub record FailsAndRemoves (old new : Option (List Call)) (bytes : List ℕ) : Type 0 where
  pub done : List Call
  pub next : Call
  pub rest : List Call
  pub front : done ++ next ∷ rest ≡ replace_calls bytes
  pub calls : AppendsCalls old new (done ++ Failed ∷ Removed ∷ [])

-- All of them succeeded but the last one of `durable_replace_calls`: the new file has the name.
abbrev pub FailsToSyncFolder : Option (List Call) → Option (List Call) → List ℕ → Type 0
FailsToSyncFolder old new bytes = AppendsCalls old new (Wrote bytes ∷ Synced ∷ Renamed ∷ Failed ∷ [])
