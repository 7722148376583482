-- The lines of a script as its bytes come, and the transcript from there on.
use Rattle.std.specs.Prelude.{◌==◌, nat_le, nat_lt}
use Rattle.std.proofs.Common.{◌≡◌, ◌∙◌, ℕ, suc, ◌+◌, ◌-◌, ◌<◌, ◌≤◌, Bool, true, false, cond, not, ◌&&◌, List, [], ◌∷◌}
use Rattle.std.proofs.Common.{◌++◌, length, take, All, refl, sym, ap, append_assoc, append-nil, ⊎_elim, arith}
use Rattle.std.proofs.lemmas.Bool.Decides.{nat_tests}
use Rattle.std.proofs.lemmas.Bool.{cases_lt, ne_eqb}
use Rattle.std.proofs.lemmas.List.{length-append, length-take, take_all}
use Rattle.std.proofs.Math.Seq.{take-append_seam}
use Rattle.std.proofs.Math.Bool.{and-false}
use Rattle.std.specs.Str.Lines.{lines_of_parts, strip_carriage_return}
use Rattle.std.proofs.lemmas.List.Splits.{slice_split_at, slice_split_none, length-slice_split}
use Rattle.alpha_debug.specs.declared.command.Command.TheVariants.{Unknown}
use Rattle.alpha_debug.specs.declared.debugger.Debugger.{Debugger}
use Rattle.alpha_debug.specs.declared.end.DebugEnd.TheVariants.{Done, TooLarge}
use Rattle.alpha_debug.specs.Command.{command_of, command_in, words}
use Rattle.alpha_debug.specs.Session.{Setting, Session, text_of, answer}
use Rattle.alpha_debug.specs.Script.{parts, ended_parts, all_lines, lines_within, answers, closed}
use Rattle.alpha_debug.specs.Effects.{Grows, session_of, setting_of, told_from}
use Rattle.alpha_debug.proofs.SinkEffects.{Grows-same, Grows-trans}
use Rattle.alpha_debug.proofs.Sessions.{answer-grows}

-- ---- tests of numbers

le-suc : (a b : ℕ) → nat_le (suc a) (suc b) ≡ nat_le a b
le-suc a b = grind (arith, nat_tests)

lt-suc : (a b : ℕ) → nat_lt (suc a) (suc b) ≡ nat_lt a b
lt-suc a b = grind (arith, nat_tests)

le-zero : (b : ℕ) → nat_le 0 b ≡ true
le-zero b = grind (arith, nat_tests)

le-none : (a : ℕ) → nat_le (suc a) 0 ≡ false
le-none a = grind (arith, nat_tests)

lt-zero : (a : ℕ) → nat_lt a 0 ≡ false
lt-zero a = grind (arith, nat_tests)

lt-some : (b : ℕ) → nat_lt 0 (suc b) ≡ true
lt-some b = grind (arith, nat_tests)

lt-above : (a b : ℕ) → a < b → nat_lt a b ≡ true
lt-above a b l = grind (arith, nat_tests)

le-above : (a b : ℕ) → b < a → nat_le a b ≡ false
le-above a b l = grind (arith, nat_tests)

-- ---- lines

-- no line feed stands in a line
abbrev pub LineHasNoFeed : List ℕ → Type 0
LineHasNoFeed line = All (λ b. (b == 10) ≡ false) line

lines_of_parts-cons : (x : List ℕ) (ps : List (List ℕ)) → 0 < length ps
    → lines_of_parts (x ∷ ps) ≡ strip_carriage_return x ∷ lines_of_parts ps
lines_of_parts-cons x [] l = absurd (omega arith)
lines_of_parts-cons x (y ∷ more) l = refl

ended-cons : (x : List ℕ) (ps : List (List ℕ)) → 0 < length ps
    → ended_parts (x ∷ ps) ≡ strip_carriage_return x ∷ ended_parts ps
ended-cons x [] l = absurd (omega arith)
ended-cons x (y ∷ more) l = refl

some-parts : (s : List ℕ) → 0 < length (parts s)
some-parts s = omega (arith, length-slice_split (λ b. b == 10) s)

parts-feed : (begun s : List ℕ) → LineHasNoFeed begun → parts (begun ++ 10 ∷ s) ≡ begun ∷ parts s
parts-feed begun s line = slice_split_at (λ b. b == 10) begun 10 s line refl

all-feed : (begun s : List ℕ) → LineHasNoFeed begun
    → all_lines (begun ++ 10 ∷ s) ≡ strip_carriage_return begun ∷ all_lines s
all-feed begun s line = ap lines_of_parts (parts-feed begun s line) ∙ lines_of_parts-cons begun (parts s) (some-parts s)

ended-feed : (begun s : List ℕ) → LineHasNoFeed begun
    → ended_parts (parts (begun ++ 10 ∷ s)) ≡ strip_carriage_return begun ∷ ended_parts (parts s)
ended-feed begun s line = ap ended_parts (parts-feed begun s line) ∙ ended-cons begun (parts s) (some-parts s)

cond-cons : (b : Bool) (x : List ℕ) (xs ys : List (List ℕ)) → cond b (x ∷ xs) (x ∷ ys) ≡ x ∷ cond b xs ys
cond-cons true x xs ys = refl
cond-cons false x xs ys = refl

-- a byte more of the line in hand
pub lines_within-other_byte : (n b : ℕ) (begun rest : List ℕ)
    → lines_within (suc n) begun (b ∷ rest) ≡ lines_within n (begun ++ b ∷ []) rest
lines_within-other_byte n b begun rest =
    let joined : (s : List ℕ) → begun ++ b ∷ s ≡ (begun ++ b ∷ []) ++ s =
    λ (s : List ℕ). sym (append_assoc begun (b ∷ []) s) in
    ap (λ (t : Bool). cond t (all_lines (begun ++ b ∷ rest)) (ended_parts (parts (begun ++ b ∷ take n rest))))
    (le-suc (length rest) n)
    ∙ (ap (λ (l : List ℕ). cond (nat_le (length rest) n) (all_lines l) (ended_parts (parts (begun ++ b ∷ take n rest))))
    (joined rest)
    ∙ ap (λ (l : List ℕ). cond (nat_le (length rest) n) (all_lines ((begun ++ b ∷ []) ++ rest)) (ended_parts (parts l)))
    (joined (take n rest)))

-- a line feed, which ends it
pub lines_within-line_feed : (n : ℕ) (begun rest : List ℕ) → LineHasNoFeed begun
    → lines_within (suc n) begun (10 ∷ rest) ≡ strip_carriage_return begun ∷ lines_within n [] rest
lines_within-line_feed n begun rest line =
    ap (λ (t : Bool). cond t (all_lines (begun ++ 10 ∷ rest)) (ended_parts (parts (begun ++ 10 ∷ take n rest))))
    (le-suc (length rest) n)
    ∙ (ap (λ (ls : List (List ℕ)). cond (nat_le (length rest) n) ls (ended_parts (parts (begun ++ 10 ∷ take n rest))))
    (all-feed begun rest line)
    ∙ (ap (λ (ls : List (List ℕ)). cond (nat_le (length rest) n) (strip_carriage_return begun ∷ all_lines rest) ls)
    (ended-feed begun (take n rest) line)
    ∙ cond-cons (nat_le (length rest) n) (strip_carriage_return begun) (all_lines rest)
    (ended_parts (parts (take n rest)))))

one-part : (begun : List ℕ) → LineHasNoFeed begun → parts (begun ++ []) ≡ begun ∷ []
one-part begun line = ap parts (append-nil begun) ∙ slice_split_none (λ b. b == 10) begun line

-- the end of the script
pub lines_within-script_end : (n : ℕ) (begun : List ℕ) → LineHasNoFeed begun
    → lines_within n begun [] ≡ cond (length begun == 0) [] (begun ∷ [])
lines_within-script_end n begun line =
    ap (λ (t : Bool). cond t (all_lines (begun ++ [])) (ended_parts (parts (begun ++ take n [])))) (le-zero n)
    ∙ ap lines_of_parts (one-part begun line)

-- a byte behind those that count
pub lines_within-too_many_bytes : (b : ℕ) (begun rest : List ℕ) → LineHasNoFeed begun
    → lines_within 0 begun (b ∷ rest) ≡ []
lines_within-too_many_bytes b begun rest line =
    ap (λ (t : Bool). cond t (all_lines (begun ++ b ∷ rest)) (ended_parts (parts (begun ++ []))))
    (le-none (length rest))
    ∙ ap ended_parts (one-part begun line)

-- the lines that end within bytes behind which there are more
pub lines_within-ended_parts : (taken : List ℕ) (b : ℕ)
    → lines_within (length taken + 0) [] (taken ++ b ∷ []) ≡ ended_parts (parts taken)
lines_within-ended_parts taken b =
    let n : ℕ = length taken in
    let all : n + 0 ≡ n = omega arith in
    let script : List ℕ = taken ++ b ∷ [] in
    ap (λ (m : ℕ). lines_within m [] script) all
    ∙ (ap (λ (t : Bool). cond t (all_lines script) (ended_parts (parts (take n script))))
    (le-above (length script) n (omega (arith, length-append taken (b ∷ []))))
    ∙ ap (λ (l : List ℕ). ended_parts (parts l)) (take-append_seam taken (b ∷ [])))

-- ---- the transcript

over-grows : (b : Bool) (s t : Session) → Grows (text_of s) (text_of t) → Grows (text_of s) (text_of (cond b s t))
over-grows true s t more = Grows-same (text_of s)
over-grows false s t more = more

pub answers-grows : (g : Setting) (s : Session) (lines : List (List ℕ))
    → Grows (text_of s) (text_of (answers g s lines))
answers-grows g s [] = Grows-same (text_of s)
answers-grows g s (line ∷ more) =
    let t : Session = answer g (command_of line) s in
    over-grows s.over s (answers g t more)
    (Grows-trans (text_of s) (text_of t) (text_of (answers g t more)) (answer-grows g (command_of line) s)
    (answers-grows g t more))

-- what is written stays
pub told_from-Grows : (d : Debugger) (text : List ℕ) (most : ℕ) (begun script : List ℕ)
    → Grows text (told_from d text most begun script).text
told_from-Grows d text most begun script =
    answers-grows (setting_of d) (session_of d text) (lines_within most begun script)

answers-over : (g : Setting) (s : Session) (lines : List (List ℕ)) → s.over ≡ true → answers g s lines ≡ s
answers-over g s [] e = refl
answers-over g s (line ∷ more) e = ap (λ (b : Bool). cond b s (answers g (answer g (command_of line) s) more)) e

closed-suc : (n b : ℕ) (rest : List ℕ) (s : Session) → closed (suc n) (b ∷ rest) s ≡ closed n rest s
closed-suc n b rest s =
    ap (λ (t : Bool). record { text = text_of s; end = cond (t && not s.over) TooLarge Done }) (lt-suc n (length rest))

closed-over : (n : ℕ) (rest : List ℕ) (s : Session) → s.over ≡ true
    → closed n rest s ≡ record { text = text_of s; end = Done }
closed-over n rest s e =
    ap (λ (o : Bool). record { text = text_of s; end = cond (nat_lt n (length rest) && not o) TooLarge Done }) e
    ∙ ap (λ (t : Bool). record { text = text_of s; end = cond t TooLarge Done }) (and-false (nat_lt n (length rest)))

closed-end : (n : ℕ) (s : Session) → closed n [] s ≡ record { text = text_of s; end = Done }
closed-end n s = ap (λ (t : Bool). record { text = text_of s; end = cond (t && not s.over) TooLarge Done }) (lt-zero n)

-- a byte more of the line in hand
pub told_from-other_byte : (d : Debugger) (text : List ℕ) (n b : ℕ) (begun rest : List ℕ)
    → told_from d text (suc n) begun (b ∷ rest) ≡ told_from d text n (begun ++ b ∷ []) rest
told_from-other_byte d text n b begun rest =
    ap (λ (ls : List (List ℕ)). closed (suc n) (b ∷ rest) (answers (setting_of d) (session_of d text) ls))
    (lines_within-other_byte n b begun rest)
    ∙ closed-suc n b rest (answers (setting_of d) (session_of d text) (lines_within n (begun ++ b ∷ []) rest))

-- a line feed: the line in hand is answered
pub told_from-line_feed : (d : Debugger) (text : List ℕ) (n : ℕ) (begun rest : List ℕ) → LineHasNoFeed begun
    → told_from d text (suc n) begun (10 ∷ rest)
    ≡ closed n rest
    (answers (setting_of d) (answer (setting_of d) (command_of (strip_carriage_return begun)) (session_of d text))
    (lines_within n [] rest))
told_from-line_feed d text n begun rest line =
    ap (λ (ls : List (List ℕ)). closed (suc n) (10 ∷ rest) (answers (setting_of d) (session_of d text) ls))
    (lines_within-line_feed n begun rest line)
    ∙ closed-suc n 10 rest
    (answers (setting_of d) (answer (setting_of d) (command_of (strip_carriage_return begun)) (session_of d text))
    (lines_within n [] rest))

-- a session that is over stays
pub closed-over_session : (g : Setting) (n : ℕ) (rest : List ℕ) (lines : List (List ℕ)) (s : Session) → s.over ≡ true
    → closed n rest (answers g s lines) ≡ record { text = text_of s; end = Done }
closed-over_session g n rest lines s e = ap (closed n rest) (answers-over g s lines e) ∙ closed-over n rest s e

pub length-cons_not_zero : (b : ℕ) (line : List ℕ) → (length (b ∷ line) == 0) ≡ false
length-cons_not_zero b line = ne_eqb (length (b ∷ line)) 0 (λ e. omega arith)

end-by : (g : Setting) (s : Session) (line : List ℕ) → s.over ≡ false
    → text_of (answers g s (cond (length line == 0) [] (line ∷ []))) ≡ text_of (answer g (command_of line) s)
end-by g s [] e = refl
end-by g s (b ∷ line) e =
    ap (λ (t : Bool). text_of (answers g s (cond t [] ((b ∷ line) ∷ [])))) (length-cons_not_zero b line)
    ∙ ap (λ (o : Bool). text_of (cond o s (answer g (command_of (b ∷ line)) s))) e

-- the end of the script: what stands behind its last line feed is answered
pub told_from-script_end : (d : Debugger) (text : List ℕ) (n : ℕ) (begun : List ℕ) → LineHasNoFeed begun
    → told_from d text n begun []
    ≡ record { text = text_of (answer (setting_of d) (command_of begun) (session_of d text)); end = Done }
told_from-script_end d text n begun line =
    ap (λ (ls : List (List ℕ)). closed n [] (answers (setting_of d) (session_of d text) ls))
    (lines_within-script_end n begun line)
    ∙ (closed-end n (answers (setting_of d) (session_of d text) (cond (length begun == 0) [] (begun ∷ [])))
    ∙ ap (λ (t : List ℕ). record { text = t; end = Done }) (end-by (setting_of d) (session_of d text) begun refl))

-- a byte behind those that count: the session is too large
pub told_from-too_large : (d : Debugger) (text : List ℕ) (b : ℕ) (begun rest : List ℕ) → LineHasNoFeed begun
    → told_from d text 0 begun (b ∷ rest) ≡ record { text = text; end = TooLarge }
told_from-too_large d text b begun rest line =
    ap (λ (ls : List (List ℕ)). closed 0 (b ∷ rest) (answers (setting_of d) (session_of d text) ls))
    (lines_within-too_many_bytes b begun rest line)
    ∙ ap (λ (t : Bool). record { text = text; end = cond (t && true) TooLarge Done }) (lt-some (length rest))

-- ---- the bytes of a line that are held

strip-by : (b : Bool) (l : List ℕ) → length l ≤ length (cond b (take (length l - 1) l) l) + 1
strip-by true l = omega (arith, length-take (length l - 1) l)
strip-by false l = omega arith

strip-length : (l : List ℕ) → length l ≤ length (strip_carriage_return l) + 1
strip-length l = strip-by _ l

-- a line that is too long
long-line : (line : List ℕ) → 1024 < length line → command_of line ≡ Unknown
long-line line l = ap (λ (t : Bool). cond t Unknown (command_in (words line))) (lt-above 1024 (length line) l)

-- the line is answered alike where only its front is held
pub command_of-held_line : (begun : List ℕ)
    → command_of (strip_carriage_return (take 1026 begun)) ≡ command_of (strip_carriage_return begun)
command_of-held_line begun =
    ⊎_elim
    (λ (short : length begun < 1026).
    ap (λ (l : List ℕ). command_of (strip_carriage_return l)) (take_all 1026 begun (omega (arith, short))))
    (λ (long : 1026 ≤ length begun).
    let front : length (take 1026 begun) ≡ 1026 = omega (arith, length-take 1026 begun) in
    long-line (strip_carriage_return (take 1026 begun)) (omega (arith, strip-length (take 1026 begun)))
    ∙ sym (long-line (strip_carriage_return begun) (omega (arith, strip-length begun))))
    (cases_lt (length begun) 1026)

pub command_of-held_prefix : (begun : List ℕ) → command_of (take 1026 begun) ≡ command_of begun
command_of-held_prefix begun =
    ⊎_elim
    (λ (short : length begun < 1026). ap command_of (take_all 1026 begun (omega (arith, short))))
    (λ (long : 1026 ≤ length begun).
    let front : length (take 1026 begun) ≡ 1026 = omega (arith, length-take 1026 begun) in
    long-line (take 1026 begun) (omega arith) ∙ sym (long-line begun (omega arith)))
    (cases_lt (length begun) 1026)
