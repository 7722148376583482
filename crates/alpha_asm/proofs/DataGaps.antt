-- Data bytes and the gaps in them.
use Rattle.std.proofs.Common.{◌≡◌, ◌≤◌, ◌+◌, ℕ, List, [], ◌∷◌, ◌++◌, take, drop, replicate, length, refl, sym, ap}
use Rattle.std.proofs.Common.{subst, ◌∙◌, append_assoc, append-nil, length-append, length-drop, arith}
use Rattle.std.proofs.Math.Seq.{take-length, drop-length}
use Rattle.std.proofs.lemmas.List.{take-append-le, drop-append-le, length-take-le, length-replicate, drop_all}
use Rattle.alpha_asm.specs.declared.data.Gap.{Gap}
use Rattle.alpha_asm.specs.Data.{before_gaps, zeros_of_gaps, spread}

-- ---- one gap more

pub before-snoc : (gs : List Gap) (g : Gap) → before_gaps (gs ++ g ∷ []) ≡ before_gaps gs + g.before
before-snoc [] g = omega arith
before-snoc (f ∷ gs) g = omega (arith, before-snoc gs g)

pub zeros-snoc : (gs : List Gap) (g : Gap) → zeros_of_gaps (gs ++ g ∷ []) ≡ zeros_of_gaps gs + g.zeros
zeros-snoc [] g = omega arith
zeros-snoc (f ∷ gs) g = omega (arith, zeros-snoc gs g)

-- a gap behind all bytes
pub spread-gap : (gs : List Gap) (g : Gap) (bytes : List ℕ) → before_gaps gs + g.before ≡ length bytes
    → spread (gs ++ g ∷ []) bytes ≡ spread gs bytes ++ replicate g.zeros 0
spread-gap [] g bytes h =
    let all : g.before ≡ length bytes = omega (arith, h) in
    ap (λ n. take n bytes ++ (replicate g.zeros 0 ++ drop n bytes)) all
    ∙ (ap (λ l. l ++ (replicate g.zeros 0 ++ drop (length bytes) bytes)) (take-length bytes)
    ∙ ap (λ l. bytes ++ l) (ap (λ l. replicate g.zeros 0 ++ l) (drop-length bytes) ∙ append-nil (replicate g.zeros 0)))
spread-gap (f ∷ gs) g bytes h =
    let rest = spread-gap gs g (drop f.before bytes) (omega (arith, h, length-drop f.before bytes)) in
    ap (λ l. take f.before bytes ++ (replicate f.zeros 0 ++ l)) rest
    ∙ (ap (λ l. take f.before bytes ++ l)
    (sym (append_assoc (replicate f.zeros 0) (spread gs (drop f.before bytes)) (replicate g.zeros 0)))
    ∙ sym
    (append_assoc (take f.before bytes) (replicate f.zeros 0 ++ spread gs (drop f.before bytes)) (replicate g.zeros 0)))

-- ---- more bytes

pub spread-more : (gs : List Gap) (bytes more : List ℕ) → before_gaps gs ≤ length bytes
    → spread gs (bytes ++ more) ≡ spread gs bytes ++ more
spread-more [] bytes more h = refl
spread-more (g ∷ gs) bytes more h =
    let low : g.before ≤ length bytes = omega (arith, h) in
    let rest = spread-more gs (drop g.before bytes) more (omega (arith, h, length-drop g.before bytes)) in
    ap (λ l. l ++ (replicate g.zeros 0 ++ spread gs (drop g.before (bytes ++ more))))
    (take-append-le g.before bytes more low)
    ∙ (ap (λ l. take g.before bytes ++ (replicate g.zeros 0 ++ spread gs l)) (drop-append-le g.before bytes more low)
    ∙ (ap (λ l. take g.before bytes ++ (replicate g.zeros 0 ++ l)) rest
    ∙ (ap (λ l. take g.before bytes ++ l)
    (sym (append_assoc (replicate g.zeros 0) (spread gs (drop g.before bytes)) more))
    ∙ sym (append_assoc (take g.before bytes) (replicate g.zeros 0 ++ spread gs (drop g.before bytes)) more))))

-- how many they are
pub length-spread : (gs : List Gap) (bytes : List ℕ) → before_gaps gs ≤ length bytes
    → length (spread gs bytes) ≡ length bytes + zeros_of_gaps gs
length-spread [] bytes h = omega arith
length-spread (g ∷ gs) bytes h =
    let low : g.before ≤ length bytes = omega (arith, h) in
    let size = length-drop g.before bytes in
    let rest = length-spread gs (drop g.before bytes) (omega (arith, h, size)) in
    omega (
      arith,
      h,
      size,
      rest,
      length-append (take g.before bytes) (replicate g.zeros 0 ++ spread gs (drop g.before bytes)),
      length-append (replicate {A = ℕ} g.zeros 0) (spread gs (drop g.before bytes)),
      length-take-le g.before bytes low,
      length-replicate {A = ℕ} g.zeros 0,
    )

-- ---- one gap after the other

-- so many gaps were gone over: the bytes before and in them, and the rest of the bytes
pub record Spreads (gaps : List Gap) (bytes : List ℕ) (i : ℕ) (all rest : List ℕ) : Type 0 where
  pub whole : all ++ spread (drop i gaps) rest ≡ spread gaps bytes
  pub room : before_gaps (drop i gaps) ≤ length rest

pub Spreads-next : (gaps : List Gap) (bytes : List ℕ) (i : ℕ) (gap : Gap) (all all' rest rest' : List ℕ)
    → drop i gaps ≡ gap ∷ drop (i + 1) gaps
    → Spreads gaps bytes i all rest → all' ≡ (all ++ take gap.before rest) ++ replicate gap.zeros 0
    → rest' ≡ drop gap.before rest
    → Spreads gaps bytes (i + 1) all' rest'
Spreads-next gaps bytes i gap all all' rest rest' e s more left =
    let room : before_gaps (gap ∷ drop (i + 1) gaps) ≤ length rest =
    subst (λ l. before_gaps l ≤ length rest) e s.room in
    record {
      whole =
          ap (λ l. l ++ spread (drop (i + 1) gaps) rest') more
          ∙ (ap (λ l. ((all ++ take gap.before rest) ++ replicate gap.zeros 0) ++ spread (drop (i + 1) gaps) l) left
          ∙ (append_assoc (all ++ take gap.before rest) (replicate gap.zeros 0)
          (spread (drop (i + 1) gaps) (drop gap.before rest))
          ∙ (append_assoc all (take gap.before rest)
          (replicate gap.zeros 0 ++ spread (drop (i + 1) gaps) (drop gap.before rest))
          ∙ (ap (λ l. all ++ spread l rest) (sym e) ∙ s.whole))));
      room = omega (arith, room, ap length left, length-drop gap.before rest);
    }

-- the gap in hand lies within the rest
pub Spreads-gap_within : (gaps : List Gap) (bytes : List ℕ) (i : ℕ) (gap : Gap) (all rest : List ℕ)
    → drop i gaps ≡ gap ∷ drop (i + 1) gaps → Spreads gaps bytes i all rest → gap.before ≤ length rest
Spreads-gap_within gaps bytes i gap all rest e s =
    let room : before_gaps (gap ∷ drop (i + 1) gaps) ≤ length rest =
    subst (λ l. before_gaps l ≤ length rest) e s.room in
    omega (arith, room)

pub spread_all : (gaps : List Gap) (bytes : List ℕ) (i : ℕ) (all rest : List ℕ) → length gaps ≤ i
    → Spreads gaps bytes i all rest → all ++ rest ≡ spread gaps bytes
spread_all gaps bytes i all rest h s = ap (λ l. all ++ spread l rest) (sym (drop_all i gaps h)) ∙ s.whole
