-- Frames as bytes and as numbers.
use Rattle.std.proofs.Common.{◌≡◌, ℕ, zero, suc, ◌+◌, ◌-◌, ◌*◌, ◌^◌, ◌<◌, ◌≤◌, List, [], ◌∷◌, ◌++◌, length, take, drop}
use Rattle.std.proofs.Common.{replicate, refl, sym, ap, ◌∙◌, arith, append_assoc, append-nil, length-append}
use Rattle.std.proofs.Common.{length-drop, length-take}
use Rattle.std.proofs.lemmas.List.{take_at, drop_at, drop-drop, drop_all, take_rest, drop-replicate}
use Rattle.std.proofs.Math.Nat.{mod-eq_of_lt}
use Rattle.byteorder.specs.Endian.{little_bytes, little_from, little_number}
use Rattle.byteorder.specs.Numbers.{little_from-cons}
use Rattle.alpha_words.specs.Digits.{number, digits, low_bytes, little, little_at}
use Rattle.alpha_words.proofs.DigitLemmas.{length-digits, number-digits, bytes_low_first-digits}
use Rattle.alpha_pal.specs.declared.frame.Frame.{Frame}
use Rattle.alpha_pal.specs.Frame.{bytes_of, frame_of}
use Rattle.alpha_pal.specs.Kernel.{no_frame}

length-quadword : (x : ℕ) → length (low_bytes 8 x) ≡ 8
length-quadword x = length-digits 256 8 x

little_from-nil : (i n : ℕ) → little_from i n [] ≡ 0
little_from-nil i zero = refl
little_from-nil i (suc n) = omega (arith, little_from-nil (suc i) n)

-- the number in the first bytes, which are those of a shorter list where there are fewer
little_number-little : (n : ℕ) (bytes : List ℕ) → little_number n bytes ≡ little (take n bytes)
unfolding number
little_number-little zero bytes = refl
little_number-little (suc n) [] = little_from-nil 0 (suc n)
little_number-little (suc n) (x ∷ bytes) =
    ap (λ k. x + 256 * k) (little_from-cons 0 n x bytes ∙ little_number-little n bytes)

-- the quadword that was read at a place
pub read_quadword : (at : ℕ) (bytes part : List ℕ) (x : ℕ) → part ≡ drop at bytes → x ≡ little_number 8 part
    → x ≡ little_at 8 at bytes
read_quadword at bytes part x same is = is ∙ (little_number-little 8 part ∙ ap (λ l. little (take 8 l)) same)

-- a write where the written front ends
pub written_next : (old was now front xs : List ℕ) (n : ℕ) → was ≡ front ++ drop n old
    → now ≡ take n was ++ (xs ++ drop (n + 8) was) → length front ≡ n → now ≡ (front ++ xs) ++ drop (n + 8) old
written_next old was now front xs n is_was is_now sized =
    let before : take n was ≡ front = ap (take n) is_was ∙ take_at front (drop n old) n sized in
    let rest : drop (n + 8) was ≡ drop (n + 8) old =
    sym (drop-drop 8 n was) ∙ ap (drop 8) (ap (drop n) is_was ∙ drop_at front (drop n old) n sized)
    ∙ drop-drop 8 n old in
    is_now
    ∙ (ap (λ l. l ++ (xs ++ drop (n + 8) was)) before
    ∙ (ap (λ l. front ++ (xs ++ l)) rest ∙ sym (append_assoc front xs (drop (n + 8) old))))

-- six writes in a row make a frame
pub written_frame : (f : Frame) (b0 b1 b2 b3 b4 b5 b6 : List ℕ) → length b0 ≡ 48
    → b1 ≡ take 0 b0 ++ (low_bytes 8 f.ps ++ drop (0 + 8) b0)
    → b2 ≡ take 8 b1 ++ (low_bytes 8 f.pc ++ drop (8 + 8) b1)
    → b3 ≡ take 16 b2 ++ (low_bytes 8 f.gp ++ drop (16 + 8) b2)
    → b4 ≡ take 24 b3 ++ (low_bytes 8 f.r16 ++ drop (24 + 8) b3)
    → b5 ≡ take 32 b4 ++ (low_bytes 8 f.r17 ++ drop (32 + 8) b4)
    → b6 ≡ take 40 b5 ++ (low_bytes 8 f.r18 ++ drop (40 + 8) b5)
    → b6 ≡ bytes_of f
unfolding bytes_of
written_frame f b0 b1 b2 b3 b4 b5 b6 sized e1 e2 e3 e4 e5 e6 =
    let l0 = length-quadword f.ps in
    let l1 = length-quadword f.pc in
    let l2 = length-quadword f.gp in
    let l3 = length-quadword f.r16 in
    let l4 = length-quadword f.r17 in
    let f1 = low_bytes 8 f.ps ++ low_bytes 8 f.pc in
    let f2 = f1 ++ low_bytes 8 f.gp in
    let f3 = f2 ++ low_bytes 8 f.r16 in
    let f4 = f3 ++ low_bytes 8 f.r17 in
    let s1 : length f1 ≡ 16 = omega (arith, length-append (low_bytes 8 f.ps) (low_bytes 8 f.pc)) in
    let s2 : length f2 ≡ 24 = omega (arith, length-append f1 (low_bytes 8 f.gp)) in
    let s3 : length f3 ≡ 32 = omega (arith, length-append f2 (low_bytes 8 f.r16)) in
    let s4 : length f4 ≡ 40 = omega (arith, length-append f3 (low_bytes 8 f.r17)) in
    let w2 = written_next b0 b1 b2 (low_bytes 8 f.ps) (low_bytes 8 f.pc) 8 e1 e2 l0 in
    let w3 = written_next b0 b2 b3 f1 (low_bytes 8 f.gp) 16 w2 e3 s1 in
    let w4 = written_next b0 b3 b4 f2 (low_bytes 8 f.r16) 24 w3 e4 s2 in
    let w5 = written_next b0 b4 b5 f3 (low_bytes 8 f.r17) 32 w4 e5 s3 in
    let w6 = written_next b0 b5 b6 f4 (low_bytes 8 f.r18) 40 w5 e6 s4 in
    w6
    ∙ (ap (λ l. (f4 ++ low_bytes 8 f.r18) ++ l) (drop_all 48 b0 (omega arith)) ∙ append-nil (f4 ++ low_bytes 8 f.r18))

-- past the first quadword
drop-past_first : (x n : ℕ) (rest : List ℕ) → drop (8 + n) (low_bytes 8 x ++ rest) ≡ drop n rest
drop-past_first x n rest =
    sym (drop-drop n 8 (low_bytes 8 x ++ rest)) ∙ ap (drop n) (drop_at (low_bytes 8 x) rest 8 (length-quadword x))

-- the first quadword
little_at-first : (x : ℕ) (rest : List ℕ) → x < 2 ^ 64 → little_at 8 0 (low_bytes 8 x ++ rest) ≡ x
little_at-first x rest small =
    ap little (take_at (low_bytes 8 x) rest 8 (length-quadword x)) ∙ (number-digits 8 8 x ∙ mod-eq_of_lt small)

-- a later quadword
little_at-later : (n x : ℕ) (rest : List ℕ) → little_at 8 (8 + n) (low_bytes 8 x ++ rest) ≡ little_at 8 n rest
little_at-later n x rest = ap (λ l. little (take 8 l)) (drop-past_first x n rest)

bytes_of-flat : (f : Frame) → bytes_of f ≡ low_bytes 8 f.ps ++ (low_bytes 8 f.pc
    ++ (low_bytes 8 f.gp ++ (low_bytes 8 f.r16 ++ (low_bytes 8 f.r17 ++ (low_bytes 8 f.r18 ++ [])))))
unfolding bytes_of
bytes_of-flat f = simp (append_assoc, append-nil)

same_frame : (ps pc gp a b c ps' pc' gp' a' b' c' : ℕ) → ps ≡ ps' → pc ≡ pc' → gp ≡ gp' → a ≡ a' → b ≡ b' → c ≡ c'
    → (let f : Frame = record { ps = ps; pc = pc; gp = gp; r16 = a; r17 = b; r18 = c } in
    let g : Frame = record { ps = ps'; pc = pc'; gp = gp'; r16 = a'; r17 = b'; r18 = c' } in f ≡ g)
same_frame ps pc gp a b c ps' pc' gp' a' b' c' e0 e1 e2 e3 e4 e5 = simp (e0, e1, e2, e3, e4, e5)

-- the numbers of a frame are those that were written
pub frame_of-bytes_of : (f : Frame) → f.ps < 2 ^ 64 → f.pc < 2 ^ 64 → f.gp < 2 ^ 64 → f.r16 < 2 ^ 64 → f.r17 < 2 ^ 64
    → f.r18 < 2 ^ 64 → frame_of (bytes_of f) ≡ f
unfolding frame_of
frame_of-bytes_of f h0 h1 h2 h3 h4 h5 =
    let flat = bytes_of-flat f in
    let r5 = low_bytes 8 f.r18 ++ [] in
    let r4 = low_bytes 8 f.r17 ++ r5 in
    let r3 = low_bytes 8 f.r16 ++ r4 in
    let r2 = low_bytes 8 f.gp ++ r3 in
    let r1 = low_bytes 8 f.pc ++ r2 in
    let q0 = ap (little_at 8 0) flat ∙ little_at-first f.ps r1 h0 in
    let q1 = ap (little_at 8 8) flat ∙ (little_at-later 0 f.ps r1 ∙ little_at-first f.pc r2 h1) in
    let q2 =
    ap (little_at 8 16) flat ∙ (little_at-later 8 f.ps r1 ∙ (little_at-later 0 f.pc r2 ∙ little_at-first f.gp r3 h2)) in
    let q3 =
    ap (little_at 8 24) flat ∙ (little_at-later 16 f.ps r1
    ∙ (little_at-later 8 f.pc r2 ∙ (little_at-later 0 f.gp r3 ∙ little_at-first f.r16 r4 h3))) in
    let q4 = ap (little_at 8 32) flat
    ∙ (little_at-later 24 f.ps r1 ∙ (little_at-later 16 f.pc r2
    ∙ (little_at-later 8 f.gp r3 ∙ (little_at-later 0 f.r16 r4 ∙ little_at-first f.r17 r5 h4)))) in
    let q5 = ap (little_at 8 40) flat ∙ (little_at-later 32 f.ps r1
    ∙ (little_at-later 24 f.pc r2 ∙ (little_at-later 16 f.gp r3
    ∙ (little_at-later 8 f.r16 r4 ∙ (little_at-later 0 f.r17 r5 ∙ little_at-first f.r18 [] h5))))) in
    same_frame _ _ _ _ _ _ f.ps f.pc f.gp f.r16 f.r17 f.r18 q0 q1 q2 q3 q4 q5

-- what a write to the end of a list from a place on leaves
pub written_last : (at value : ℕ) (old part : List ℕ) → at + 8 ≤ length old
    → part ≡ little_bytes 8 value ++ drop 8 (take (length old - at) (drop at old))
    → take at old ++ (part ++ drop (length old - at) (drop at old))
    ≡ take at old ++ (low_bytes 8 value ++ drop (at + 8) old)
written_last at value old part inside is =
    let whole : take (length old - at) (drop at old) ≡ drop at old = take_rest old at in
    let none : drop (length old - at) (drop at old) ≡ [] =
    drop_all (length old - at) (drop at old) (omega (arith, length-drop at old)) in
    let rest : drop 8 (take (length old - at) (drop at old)) ≡ drop (at + 8) old =
    ap (drop 8) whole ∙ drop-drop 8 at old in
    let now : part ≡ low_bytes 8 value ++ drop (at + 8) old = is
    ∙ (ap (λ l. l ++ drop 8 (take (length old - at) (drop at old))) (bytes_low_first-digits 8 value)
    ∙ ap (λ l. low_bytes 8 value ++ l) rest) in
    ap (λ l. take at old ++ l) (ap (λ l. part ++ l) none ∙ (append-nil part ∙ now))

-- the end of a list, after a write to it
pub drop-written_end : (at n : ℕ) (old part : List ℕ) → at ≤ length old → length old ≤ at + n
    → drop at (take at old ++ (part ++ drop n (drop at old))) ≡ part
drop-written_end at n old part inside whole =
    let none : drop n (drop at old) ≡ [] = drop_all n (drop at old) (omega (arith, length-drop at old)) in
    drop_at (take at old) (part ++ drop n (drop at old)) at (omega (arith, length-take at old))
    ∙ (ap (λ l. part ++ l) none ∙ append-nil part)

last_zeros : drop 4048 (replicate {A = ℕ} 4096 0) ≡ replicate 48 0
last_zeros = drop-replicate 4048 4096 0

zero_numbers : frame_of (replicate 48 0) ≡ no_frame
unfolding frame_of number
zero_numbers = refl

zero_bytes : bytes_of no_frame ≡ replicate 48 0
unfolding bytes_of digits
zero_bytes = refl

-- a stack of zeros ends with a frame of zeros
pub frame_of-zeros : (stack : List ℕ) → stack ≡ replicate 4096 0 → frame_of (drop 4048 stack) ≡ no_frame
frame_of-zeros stack zeros = ap (λ l. frame_of (drop 4048 l)) zeros ∙ (ap frame_of last_zeros ∙ zero_numbers)

pub zeros-frame : (stack : List ℕ) → stack ≡ replicate 4096 0 → drop 4048 stack ≡ bytes_of (frame_of (drop 4048 stack))
zeros-frame stack zeros =
    ap (drop 4048) zeros ∙ (last_zeros ∙ (sym zero_bytes ∙ ap bytes_of (sym (frame_of-zeros stack zeros))))
