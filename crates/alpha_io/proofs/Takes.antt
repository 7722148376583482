-- What a source gave by calls in a row.
use Rattle.std.proofs.Common.{◌≡◌, All, ℕ, List, [], ◌∷◌, ◌++◌, length, take, Some, None, refl, sym, ap, ◌∙◌}
use Rattle.std.proofs.Common.{append_assoc, append-nil}
use Rattle.std.proofs.lemmas.List.Elements.{All-nil, All-cons, All-append}
use Rattle.std.proofs.lemmas.Grind.{flat_map-append}
use Rattle.alpha_io.specs.History.{Reply, Took, bytes_given, all_given, IsTake, HasGiven}

pub HasGiven-none : (old : List Reply) → HasGiven old old []
HasGiven-none old = record { takes = []; only = All-nil IsTake; whole = refl; calls = sym (append-nil old) }

pub HasGiven-then : (old mid new : List Reply) (xs ys : List ℕ) → HasGiven old mid xs → HasGiven mid new ys
    → HasGiven old new (xs ++ ys)
HasGiven-then old mid new xs ys one two = record {
  takes = one.takes ++ two.takes;
  only = All-append IsTake one.takes two.takes one.only two.only;
  whole = flat_map-append bytes_given one.takes two.takes
      ∙ (ap (λ (l : List ℕ). l ++ all_given two.takes) one.whole ∙ ap (λ (l : List ℕ). xs ++ l) two.whole);
  calls = two.calls ∙ (ap (λ (l : List Reply). l ++ two.takes) one.calls ∙ append_assoc old one.takes two.takes);
}

-- one call
pub HasGiven-one : (old new : List Reply) (asked : ℕ) (bytes : List ℕ) → new ≡ old ++ Took asked (Some bytes) ∷ []
    → HasGiven old new bytes
HasGiven-one old new asked bytes is = record {
  takes = Took asked (Some bytes) ∷ [];
  only = All-cons IsTake (Took asked (Some bytes)) [] tt (All-nil IsTake);
  whole = append-nil bytes;
  calls = is;
}

-- one that failed
pub HasGiven-failed : (old new : List Reply) (asked : ℕ) → new ≡ old ++ Took asked None ∷ [] → HasGiven old new []
HasGiven-failed old new asked is = record {
  takes = Took asked None ∷ [];
  only = All-cons IsTake (Took asked None) [] tt (All-nil IsTake);
  whole = refl;
  calls = is;
}
