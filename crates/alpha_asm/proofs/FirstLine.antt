-- The first line of a source.
use Rattle.std.proofs.Common.{◌≡◌, ℕ, zero, suc, ◌+◌, ◌<◌, ◌≤◌, List, [], ◌∷◌, ◌++◌, length, map, take, drop, get_or}
use Rattle.std.proofs.Common.{◌-◌, ◌==◌, Bool, true, false, cond, eqb, None, Some, sym, ◌∙◌, ap, arith, eqb-true}
use Rattle.std.specs.Str.Lines.{lines, strip_carriage_return}
use Rattle.std.specs.Prelude.{slice_index}
use Rattle.std.proofs.lemmas.Bool.{false_from_ne_true}
use Rattle.std.proofs.lemmas.List.{length-take, length-take-le, take-take, take_min}
use Rattle.memchr.specs.Find.{IsFirstByte, is_byte}
use Rattle.alpha_asm.specs.declared.lines.Line.{Line}
use Rattle.alpha_asm.specs.SourceLines.{IsFirst, ended, unended, line_text, source_lines}
use Rattle.alpha_asm.proofs.SourceLines.{HasNoLineFeed, source_lines-ended, source_lines-unended, lines-source_lines}

no_feed : (s : List ℕ) (n : ℕ) → n ≤ length s → ((k : ℕ) → k < n → eqb (get_or s k 0) 10 ≡ true → ⊥)
    → HasNoLineFeed (take n s)
no_feed s zero h none = tt
no_feed [] (suc n) h none = absurd (omega arith)
no_feed (b ∷ s) (suc n) h none = (
  false_from_ne_true (eqb b 10) (none 0 (omega arith)),
  no_feed s n (omega arith) (λ k l. none (suc k) (omega arith)),
)

cut_there : (s : List ℕ) (n : ℕ) → n < length s → get_or s n 0 ≡ 10 → s ≡ (take n s ++ 10 ∷ []) ++ drop (suc n) s
cut_there [] n h e = absurd (omega arith)
cut_there (b ∷ s) zero h e = ap (λ c. c ∷ s) e
cut_there (b ∷ s) (suc n) h e = ap (λ t. b ∷ t) (cut_there s n (omega arith) e)

take_one : (s : List ℕ) (n : ℕ) → n < length s → get_or s n 0 ≡ 10 → take n s ++ 10 ∷ [] ≡ take (suc n) s
take_one [] n h e = absurd (omega arith)
take_one (b ∷ s) zero h e = ap (λ c. c ∷ []) (sym e)
take_one (b ∷ s) (suc n) h e = ap (λ t. b ∷ t) (take_one s n (omega arith) e)

pub IsFirst-line_feed : (s : List ℕ) (n : ℕ) (l : Line) → IsFirstByte (is_byte 10) s (Some n)
    → l.text.now ≡ strip_carriage_return (take n s)
    → l.bytes.now ≡ take (n + 1) s → l.ended ≡ true → l.rest.now ≡ drop (n + 1) s → IsFirst s l
IsFirst-line_feed s n l h text bytes feed rest =
    let inside : n < length s = h.0.high in
    let one : n + 1 ≡ suc n = omega arith in
    let ten : get_or s n 0 ≡ 10 = eqb-true (get_or s n 0) 10 h.1 in
    let clean : HasNoLineFeed (take n s) = no_feed s n (omega arith) (λ k below. h.0.before k (omega arith) below) in
    record {
      line = ended (take n s);
      is = record {
        text = sym text;
        bytes = take_one s n inside ten ∙ (ap (λ (m : ℕ). take m s) (sym one) ∙ sym bytes);
        ended = sym feed;
      };
      lines = ap source_lines (cut_there s n inside ten)
          ∙ (source_lines-ended (take n s) (drop (suc n) s) clean
          ∙ ap (λ t. ended (take n s) ∷ source_lines t) (ap (λ (m : ℕ). drop m s) (sym one) ∙ sym rest));
    }

all_clean : (s : List ℕ) → ((k : ℕ) → k < length s → eqb (get_or s k 0) 10 ≡ true → ⊥) → HasNoLineFeed s
all_clean [] none = tt
all_clean (b ∷ s) none =
    (false_from_ne_true (eqb b 10) (none 0 (omega arith)), all_clean s (λ k l. none (suc k) (omega arith)))

pub IsFirst-no_line_feed : (s : List ℕ) (l : Line) → 0 < length s → IsFirstByte (is_byte 10) s None → l.text.now ≡ s
    → l.bytes.now ≡ s → l.ended ≡ false → l.rest.now ≡ [] → IsFirst s l
IsFirst-no_line_feed [] l some h text bytes feed rest = absurd (omega arith)
IsFirst-no_line_feed (b ∷ s) l some h text bytes feed rest = record {
  line = unended (b ∷ s);
  is = record { text = sym text; bytes = sym bytes; ended = sym feed };
  lines =
      source_lines-unended b s (all_clean (b ∷ s) (λ k below. h k (omega arith) below))
      ∙ ap (λ t. unended (b ∷ s) ∷ source_lines t) (sym rest);
}

-- the library says the same lines
pub lines-IsFirst : (s : List ℕ) (l : Line) → IsFirst s l → lines s ≡ l.text.now ∷ lines l.rest.now
lines-IsFirst s l f =
    lines-source_lines s
    ∙ (ap (map line_text) f.lines
    ∙ (ap (λ t. t ∷ map line_text (source_lines l.rest.now)) f.is.text
    ∙ ap (λ ls. l.text.now ∷ ls) (sym (lines-source_lines l.rest.now))))

-- the front of a source is so many of its bytes
front-take : (n : ℕ) (s : List ℕ) → take n s ≡ take (length (take n s)) s
front-take n s = sym (take_min n s) ∙ ap (λ m. take m s) (sym (length-take n s))

front-shorter : (k n : ℕ) (s : List ℕ) → k ≤ n → take k (take n s) ≡ take (length (take k (take n s))) s
front-shorter k n s h =
    let e : take k (take n s) ≡ take k s = take-take k n s h in
    e ∙ front-take k s ∙ ap (λ t. take (length t) s) (sym e)

front-either : (t : Bool) (k n : ℕ) (s : List ℕ) → k ≤ n
    → cond t (take k (take n s)) (take n s) ≡ take (length (cond t (take k (take n s)) (take n s))) s
front-either true k n s h = front-shorter k n s h
front-either false k n s h = front-take n s

-- and so is such a front without its carriage return
pub front-strip_carriage_return : (n : ℕ) (s : List ℕ) → n ≤ length s
    → strip_carriage_return (take n s) ≡ take (length (strip_carriage_return (take n s))) s
front-strip_carriage_return n s h =
    let size : length (take n s) ≡ n = length-take-le n s h in
    front-either (slice_index (take n s) (length (take n s) - 1) == 13) (length (take n s) - 1) n s
    (omega (arith, size))
