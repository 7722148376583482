-- The statements of a listing make the program of its image.
use Rattle.std.proofs.Common.{◌≡◌, ℕ, zero, suc, ◌+◌, ◌*◌, ◌≤◌, List, [], ◌∷◌, ◌++◌, length, map, take, drop, All, refl}
use Rattle.std.proofs.Common.{◌/◌, arith}
use Rattle.std.specs.List.{flat_map, filter_map}
use Rattle.std.proofs.lemmas.List.{take-append-drop, append-nil, length-drop}
use Rattle.alpha_table.specs.declared.form.Form.{Form}
use Rattle.alpha_table.specs.Decoded.{decoded}
use Rattle.alpha_text.specs.Statements as says
use Rattle.alpha_image.specs.declared.version.Version.{Version}
use Rattle.alpha_image.specs.declared.version.Version.TheVariants.{One, Two}
use Rattle.alpha_image.specs.Parts.{Parts, Piece, pieces, IsByte}
use Rattle.alpha_dis.specs.Listing.{rows, rows_of}
use Rattle.alpha_asm.specs.Statement.{cells}
use Rattle.alpha_image.specs.Layout.{first_segment}
use Rattle.alpha_words.specs.Levels.{level_number}
use Rattle.std.proofs.lemmas.List.Elements.{All-take, All-drop}
use Rattle.alpha_round.proofs.ListingItems.{heading_statements, first_statements, row_statement, segment_statement}
use Rattle.alpha_round.proofs.ListingItems.{piece_statements}
use Rattle.alpha_round.proofs.ListingItems.{statements}
use Rattle.alpha_round.proofs.StatementsAlone.{MakesProgram, MakesProgram-append, MakesProgram-same_bytes}
use Rattle.alpha_round.proofs.StatementsAlone.{MakesProgram-none, MakesProgram-silent, MakesProgram-row}
use Rattle.alpha_round.proofs.StatementsAlone.{MakesProgram-insns}

MakesProgram-rows : (n : ℕ) (bytes : List ℕ) → length bytes ≤ 16 * n → All IsByte bytes
    → MakesProgram (map row_statement (rows_of n bytes)) [] bytes
MakesProgram-rows zero [] h b = MakesProgram-none
MakesProgram-rows zero (c ∷ bytes) h b = absurd (omega arith)
MakesProgram-rows (suc n) bytes h b =
    let whole : take 16 bytes ++ drop 16 bytes ≡ bytes = take-append-drop 16 bytes in
    let front : All IsByte (take 16 bytes) = All-take IsByte 16 bytes b in
    let back : All IsByte (drop 16 bytes) = All-drop IsByte 16 bytes b in
    MakesProgram-same_bytes (map row_statement (rows_of (suc n) bytes)) [] (take 16 bytes ++ drop 16 bytes) bytes
    (MakesProgram-append (row_statement (take 16 bytes) ∷ []) (map row_statement (rows_of n (drop 16 bytes))) [] []
    (take 16 bytes) (drop 16 bytes)
    (MakesProgram-row (take 16 bytes) front)
    (MakesProgram-rows n (drop 16 bytes) (omega (arith, h, length-drop 16 bytes)) back)) whole

MakesProgram-segment : (v : Version) (base : ℕ) → MakesProgram (segment_statement v base ∷ []) [] []
unfolding cells
MakesProgram-segment One base = MakesProgram-silent says.data_section refl refl refl (λ line. refl)
MakesProgram-segment Two base = MakesProgram-silent (says.segment base) refl refl refl (λ line. refl)

MakesProgram-zero : (n : ℕ) → MakesProgram (says.zero n ∷ []) [] []
unfolding cells
MakesProgram-zero n = MakesProgram-silent (says.zero n) refl refl refl (λ line. refl)

pub MakesProgram-piece : (v : Version) (piece : Piece) → All IsByte piece.bytes
    → MakesProgram (piece_statements v piece) [] piece.bytes
MakesProgram-piece v piece b =
    let room : length piece.bytes ≤ 16 * ((length piece.bytes + 15) / 16) = omega arith in
    let rest : MakesProgram (map row_statement (rows piece.bytes) ++ says.zero piece.zeroed ∷ []) []
    (piece.bytes ++ []) =
    MakesProgram-append (map row_statement (rows piece.bytes)) (says.zero piece.zeroed ∷ []) [] [] piece.bytes []
    (MakesProgram-rows ((length piece.bytes + 15) / 16) piece.bytes room b) (MakesProgram-zero piece.zeroed) in
    MakesProgram-append (segment_statement v piece.base ∷ [])
    (map row_statement (rows piece.bytes) ++ says.zero piece.zeroed ∷ []) [] [] [] piece.bytes
    (MakesProgram-segment v piece.base)
    (rw (append-nil piece.bytes) at rest)

pub MakesProgram-pieces : (v : Version) (ps : List Piece) → All (λ p. All IsByte p.bytes) ps
    → MakesProgram (flat_map (piece_statements v) ps) [] (flat_map (λ p. p.bytes) ps)
MakesProgram-pieces v [] b = MakesProgram-none
MakesProgram-pieces v (p ∷ ps) b =
    MakesProgram-append (piece_statements v p) (flat_map (piece_statements v) ps) [] [] p.bytes
    (flat_map (λ p. p.bytes) ps)
    (MakesProgram-piece v p (b 0 p (omega arith))) (MakesProgram-pieces v ps (λ i d l. b (suc i) d (omega (arith, l))))

MakesProgram-heading : (p : Parts) → MakesProgram (heading_statements p) [] []
unfolding cells
MakesProgram-heading p =
    MakesProgram-append (first_statements p.version p)
    (says.stack p.stack ∷ says.entry_at p.entry ∷ says.code_section ∷ []) [] []
    [] [] (front p.version)
    (MakesProgram-append (says.stack p.stack ∷ []) (says.entry_at p.entry ∷ says.code_section ∷ []) [] [] [] []
    (MakesProgram-silent (says.stack p.stack) refl refl refl (λ line. refl))
    (MakesProgram-append (says.entry_at p.entry ∷ []) (says.code_section ∷ []) [] []
    [] [] (MakesProgram-silent (says.entry_at p.entry) refl refl refl (λ line. refl))
    (MakesProgram-silent says.code_section refl refl refl (λ line. refl))))
  where
    base : MakesProgram (says.code_base p.code_base ∷ []) [] []
    base = MakesProgram-silent (says.code_base p.code_base) refl refl refl (λ line. refl)

    front : (v : Version) → MakesProgram (first_statements v p) [] []
    front One =
        MakesProgram-append (says.code_base p.code_base ∷ []) (says.data_base (first_segment p.segments).base ∷ []) []
        [] []
        [] base (MakesProgram-silent (says.data_base (first_segment p.segments).base) refl refl refl (λ line. refl))
    front Two =
        MakesProgram-append (says.level (level_number p.level) ∷ []) (says.code_base p.code_base ∷ []) [] [] [] []
        (MakesProgram-silent (says.level (level_number p.level)) refl refl refl (λ line. refl)) base

pub MakesProgram-listing : (p : Parts) → All (λ q. All IsByte q.bytes) (pieces p)
    → MakesProgram (statements p) (filter_map decoded p.words) (flat_map (λ q. q.bytes) (pieces p))
unfolding statements
MakesProgram-listing p b =
    let code : List Form = filter_map decoded p.words in
    let tail = MakesProgram-append (map says.code code) (flat_map (piece_statements p.version) (pieces p)) code [] []
    (flat_map (λ q. q.bytes) (pieces p)) (MakesProgram-insns code) (MakesProgram-pieces p.version (pieces p) b) in
    MakesProgram-append (heading_statements p) (map says.code code ++ flat_map (piece_statements p.version) (pieces p))
    [] code []
    (flat_map (λ q. q.bytes) (pieces p)) (MakesProgram-heading p) (rw (append-nil code) at tail)
