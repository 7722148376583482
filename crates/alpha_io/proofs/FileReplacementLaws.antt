-- Calls in a row on a new file.
use Rattle.std.proofs.Common.{◌∙◌, ℕ, List, [], ◌∷◌, ◌++◌, Option, None, Some, Result, Ok, Err, OnErr, refl, ap}
use Rattle.std.proofs.Common.{append_assoc}
use Rattle.alpha_io.specs.FileReplacement.{Call, Wrote, Synced, Renamed, Failed, AppendsCalls, RecordsCall}
use Rattle.alpha_io.specs.FileReplacement.{FailsBeforeRename}

-- first these calls, then those
pub AppendsCalls-then : (a b c : Option (List Call)) (xs ys : List Call) → AppendsCalls a b xs → AppendsCalls b c ys
    → AppendsCalls a c (xs ++ ys)
AppendsCalls-then None b c xs ys first second = tt
AppendsCalls-then (Some us) None c xs ys first second = absurd first
AppendsCalls-then (Some us) (Some vs) None xs ys first second = absurd second
AppendsCalls-then (Some us) (Some vs) (Some ws) xs ys first second =
    second ∙ (ap (λ (l : List Call). l ++ ys) first ∙ append_assoc us xs ys)

pub write-FailsBeforeRename : (a b : Option (List Call)) (bytes : List ℕ) → AppendsCalls a b (Failed ∷ [])
    → FailsBeforeRename a b bytes
write-FailsBeforeRename a b bytes failed =
    record { done = []; next = Wrote bytes; rest = Synced ∷ Renamed ∷ []; front = refl; calls = failed }

pub sync-FailsBeforeRename : (a b c : Option (List Call)) (bytes : List ℕ) → AppendsCalls a b (Wrote bytes ∷ [])
    → AppendsCalls b c (Failed ∷ []) → FailsBeforeRename a c bytes
sync-FailsBeforeRename a b c bytes wrote failed = record {
  done = Wrote bytes ∷ [];
  next = Synced;
  rest = Renamed ∷ [];
  front = refl;
  calls = AppendsCalls-then a b c (Wrote bytes ∷ []) (Failed ∷ []) wrote failed;
}

pub rename-FailsBeforeRename : {T E : Type 0} (a b c d : Option (List Call)) (bytes : List ℕ) (r : Result T E)
    → AppendsCalls a b (Wrote bytes ∷ []) → AppendsCalls b c (Synced ∷ []) → RecordsCall c d Renamed r
    → OnErr r (FailsBeforeRename a d bytes)
rename-FailsBeforeRename a b c d bytes (Ok x) wrote synced renamed = tt
rename-FailsBeforeRename a b c d bytes (Err e) wrote synced renamed = record {
  done = Wrote bytes ∷ Synced ∷ [];
  next = Renamed;
  rest = [];
  front = refl;
  calls =
      AppendsCalls-then a c d (Wrote bytes ∷ Synced ∷ []) (Failed ∷ [])
      (AppendsCalls-then a b c (Wrote bytes ∷ []) (Synced ∷ []) wrote synced) renamed;
}

-- what holds anyhow holds where a call failed
pub OnErr-always : {T E P : Type 0} (result : Result T E) → P → OnErr result P
OnErr-always (Ok x) p = tt
OnErr-always (Err e) p = p
