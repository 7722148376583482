-- Laws of what was written, over calls in a row.
use Rattle.std.proofs.Common.{◌≡◌, ℕ, List, [], ◌++◌, take, drop, Option, None, Some, refl, sym, ap, ◌∙◌, append_assoc}
use Rattle.std.proofs.Common.{append-nil, take-append-drop}
use Rattle.std.specs.Io.KnownBytes.{Appends, Keeps}
use Rattle.std.proofs.KnownBytes.{Appends-nil, Appends-trans, Appends-kept}
use Rattle.alpha_io.specs.Written.{WritesPrefix}

-- nothing is a prefix
pub WritesPrefix-none : (old new : Option (List ℕ)) (bytes : List ℕ) → Keeps old new → WritesPrefix old new bytes
WritesPrefix-none old new bytes stays =
    record { done = []; rest = bytes; whole = refl; written = Appends-kept old old new [] (Appends-nil old) stays }

-- all of the bytes are a prefix
pub WritesPrefix-all : (old new : Option (List ℕ)) (bytes : List ℕ) → Appends old new bytes → WritesPrefix old new bytes
WritesPrefix-all old new bytes written = record { done = bytes; rest = []; whole = append-nil bytes; written = written }

-- all of xs, and then a prefix of ys
pub WritesPrefix-after : (a b c : Option (List ℕ)) (xs ys : List ℕ) → Appends a b xs → WritesPrefix b c ys
    → WritesPrefix a c (xs ++ ys)
WritesPrefix-after a b c xs ys first second = record {
  done = xs ++ second.done;
  rest = second.rest;
  whole = append_assoc xs second.done second.rest ∙ ap (λ l. xs ++ l) second.whole;
  written = Appends-trans a b c xs second.done first second.written;
}

-- a prefix of xs, and nothing of ys
pub WritesPrefix-more : (a b : Option (List ℕ)) (xs ys : List ℕ) → WritesPrefix a b xs → WritesPrefix a b (xs ++ ys)
WritesPrefix-more a b xs ys first = record {
  done = first.done;
  rest = first.rest ++ ys;
  whole = sym (append_assoc first.done first.rest ys) ∙ ap (λ l. l ++ ys) first.whole;
  written = first.written;
}

-- the front of the bytes was written, and this is the rest
pub record HasWrittenPrefix (old new : Option (List ℕ)) (bytes rest : List ℕ) : Type 0 where
  pub done : List ℕ
  pub whole : done ++ rest ≡ bytes
  pub written : Appends old new done

pub HasWrittenPrefix-more : (a b c : Option (List ℕ)) (bytes rest : List ℕ) (n : ℕ) → HasWrittenPrefix a b bytes rest
    → Appends b c (take n rest) → HasWrittenPrefix a c bytes (drop n rest)
HasWrittenPrefix-more a b c bytes rest n front more = record {
  done = front.done ++ take n rest;
  whole =
      append_assoc front.done (take n rest) (drop n rest) ∙ ap (λ l. front.done ++ l) (take-append-drop n rest)
      ∙ front.whole;
  written = Appends-trans a b c front.done (take n rest) front.written more;
}

-- ---- where the bytes are told

pub Appends-told : (xs : List ℕ) (new : Option (List ℕ)) (bytes : List ℕ) → Appends (Some xs) new bytes
    → new ≡ Some (xs ++ bytes)
Appends-told xs None bytes p = absurd p
Appends-told xs (Some ys) bytes p = ap Some p

pub WritesPrefix-told : (xs : List ℕ) (new : Option (List ℕ)) (bytes : List ℕ) (p : WritesPrefix (Some xs) new bytes)
    → new ≡ Some (xs ++ p.done)
WritesPrefix-told xs new bytes p = Appends-told xs new p.done p.written
