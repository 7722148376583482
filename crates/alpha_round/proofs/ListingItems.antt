-- The statements that the lines of a listing are.
use Rattle.std.specs.Prelude.{ℕ, List, [], ◌∷◌, ◌++◌, decimal, map, None}
use Rattle.std.specs.List.{flat_map, filter_map, join_with_byte}
use Rattle.alpha_words.specs.Levels.{level_number}
use Rattle.alpha_table.specs.Decoded.{decoded}
use Rattle.alpha_text.specs.Statements.{Stmt}
use Rattle.alpha_text.specs.Statements as says
use Rattle.alpha_text.specs.Reading.{LineStmt}
use Rattle.alpha_image.specs.declared.version.Version.{Version}
use Rattle.alpha_image.specs.declared.version.Version.TheVariants.{One, Two}
use Rattle.alpha_image.specs.Layout.{first_segment}
use Rattle.alpha_image.specs.Parts.{Parts, Piece, pieces}
use Rattle.alpha_dis.specs.Listing.{rows}

-- a line with a statement alone
abbrev pub statement_line : Stmt → LineStmt
statement_line s = record { label = None; statement = s }

-- the fields in which the versions differ
abbrev pub first_statements : Version → Parts → List Stmt
first_statements One p = says.code_base p.code_base ∷ says.data_base (first_segment p.segments).base ∷ []
first_statements Two p = says.level (level_number p.level) ∷ says.code_base p.code_base ∷ []

-- the others, and the statement that begins the code
abbrev pub more_heading : Parts → List Stmt
more_heading p = says.stack p.stack ∷ says.entry_at p.entry ∷ says.code_section ∷ []

abbrev pub heading_statements : Parts → List Stmt
heading_statements p = first_statements p.version p ++ more_heading p

-- the values of a row of data bytes
abbrev pub row_statement : List ℕ → Stmt
row_statement row = says.values 1 (join_with_byte 44 (map decimal row))

-- the statement that begins a segment
abbrev pub segment_statement : Version → ℕ → Stmt
segment_statement One base = says.data_section
segment_statement Two base = says.segment base

-- the statements of a segment
abbrev pub piece_statements : Version → Piece → List Stmt
piece_statements version piece =
    segment_statement version piece.base ∷ (map row_statement (rows piece.bytes) ++ says.zero piece.zeroed ∷ [])

-- the statements of the lines of a listing
unfoldable pub statements : Parts → List Stmt
statements p =
    heading_statements p
    ++ (map says.code (filter_map decoded p.words) ++ flat_map (piece_statements p.version) (pieces p))

-- the items of its lines
abbrev pub listing_items : Parts → List LineStmt
listing_items p = map statement_line (statements p)
