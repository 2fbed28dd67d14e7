-- The lines of pasts and of views as pieces of a text. Assumes nothing.
use Prim.Native.Nat.{ℕ, zero, suc, ◌+◌, ◌<◌}
use native.Mathlib.Nat.{not-suc-le-zero}
use native.Mathlib.Omega.{arith}
use mathlib.Core.Path.{◌≡◌, refl, sym, ap, ap₂, ◌∙◌}
use mathlib.Core.Bool.{Bool, true, false, cond}
use mathlib.Core.List.{List, [], ◌∷◌, ◌++◌, map, append_assoc}
use lib.ListN.{length, get_or, take, length-map}
use Rattle.std.proofs.lemmas.List.{get_or-map}
use Rattle.layout.specs.Pieces.{pieces_from}
use Rattle.layout.specs.Word.{past_heading, view_heading}
use Rattle.history.specs.HistoryText.{lines_text}
use Rattle.history.proofs.LinesLaws.{lines_more, lines_append}
use Rattle.certificate.specs.declared.record.Criterion.{Criterion}
use Rattle.certificate.specs.declared.record.EventList.{EventList}
use Rattle.certificate.specs.Record.{no_list, entries_in, beginnings}
use Rattle.certificate.specs.Criteria.{has_pasts, count_from}
use Rattle.certificate.specs.CertificateText.{list_line, list_lines, criterion_text, past_part, view_part, text_of}
use Rattle.certificate.proofs.NumberingLaws.{count_long, count_at}
use Rattle.certificate_writer.specs.Steps.Lines.{first_bytes, line_bytes, past_piece, view_piece, past_bytes, view_bytes}

-- ---- pieces that are lines of a number and a list
pieces_are : (piece : ℕ → List ℕ) (ns : List ℕ) (ls : List (List ℕ)) (k : ℕ) → length ls ≡ length ns
    → ((j : ℕ) → j < length ns → piece (k + j) ≡ line_bytes (get_or ns j 0) (get_or ls j []))
    → pieces_from piece k (length ns) ≡ lines_text (list_lines ns ls)
unfolding pieces_from list_lines lines_text
pieces_are piece [] ls k e h = refl
pieces_are piece (n ∷ ns) [] k e h = absurd (omega arith)
pieces_are piece (n ∷ ns) (l ∷ ls) k e h =
    let z : k + 0 ≡ k = omega arith in
    let first : piece k ≡ list_line n l ++ 10 ∷ [] = rw z at (h 0 (omega arith)) in
    let rest =
    pieces_are piece ns ls (k + 1) (omega arith)
    (λ j p. let s : k + suc j ≡ k + 1 + j = omega arith in rw s at (h (suc j) (omega arith))) in
    ap₂ (λ (x y : List ℕ). x ++ y) first rest ∙ append_assoc (list_line n l) (10 ∷ []) (lines_text (list_lines ns ls))

-- a past of its place
past_at : (pasts : List EventList) (j : ℕ) → j < length pasts
    → past_piece pasts (0 + j) ≡ line_bytes (get_or (count_from 0 (length pasts)) j 0) (get_or (map entries_in pasts) j [])
past_at pasts j h =
    let z : 0 + j ≡ j = omega arith in
    rw (z, count_at 0 (length pasts) j 0 h, z, get_or-map entries_in pasts j no_list [] h) refl

pasts_are : (pasts : List EventList)
    → pieces_from (past_piece pasts) 0 (length pasts) ≡ lines_text (list_lines (count_from 0 (length pasts)) (map entries_in pasts))
pasts_are pasts =
    let long = count_long 0 (length pasts) in
    rw long at (pieces_are (past_piece pasts) (count_from 0 (length pasts)) (map entries_in pasts) 0
    (length-map pasts entries_in ∙ sym long) (λ j h. past_at pasts j (omega (arith, long))))

past_text : (pasts : List EventList)
    → lines_text (past_part (map entries_in pasts)) ≡ (past_heading ++ 10 ∷ []) ++ pieces_from (past_piece pasts) 0 (length pasts)
unfolding past_part
past_text pasts =
    rw (length-map pasts entries_in)
    (lines_more past_heading (list_lines (count_from 0 (length pasts)) (map entries_in pasts))
    ∙ ap (λ (t : List ℕ). (past_heading ++ 10 ∷ []) ++ t) (sym (pasts_are pasts)))

-- a view of so many events of its row
beginning_at : (ns : List ℕ) (rows : List (List ℕ)) (j : ℕ) → j < length ns → j < length rows
    → get_or (beginnings ns rows) j [] ≡ take (get_or ns j 0) (get_or rows j [])
unfolding beginnings
beginning_at [] rows j h k = absurd (not-suc-le-zero h)
beginning_at (n ∷ ns) [] j h k = absurd (not-suc-le-zero k)
beginning_at (n ∷ ns) (row ∷ rows) zero h k = refl
beginning_at (n ∷ ns) (row ∷ rows) (suc j) h k = beginning_at ns rows j (omega arith) (omega arith)

beginnings_long : (ns : List ℕ) (rows : List (List ℕ)) → length ns ≡ length rows → length (beginnings ns rows) ≡ length ns
unfolding beginnings
beginnings_long [] rows e = refl
beginnings_long (n ∷ ns) [] e = absurd (omega arith)
beginnings_long (n ∷ ns) (row ∷ rows) e = let k = beginnings_long ns rows (omega arith) in omega (arith, k)

module _ (numbers lengths : List ℕ) (rows : List (List ℕ)) (e : length lengths ≡ length numbers) (e' : length rows ≡ length numbers) where
  view_at : (j : ℕ) → j < length numbers
      → view_piece numbers lengths rows (0 + j) ≡ line_bytes (get_or numbers j 0) (get_or (beginnings lengths rows) j [])
  view_at j h =
      let z : 0 + j ≡ j = omega arith in
      rw (z, beginning_at lengths rows j (omega arith) (omega arith)) refl

  view_text : lines_text (view_part numbers (beginnings lengths rows)) ≡ view_bytes numbers lengths rows
  unfolding view_part
  view_text =
      lines_more view_heading (list_lines numbers (beginnings lengths rows))
      ∙ ap (λ (t : List ℕ). (view_heading ++ 10 ∷ []) ++ t)
      (sym (pieces_are (view_piece numbers lengths rows) numbers (beginnings lengths rows) 0
      (beginnings_long lengths rows (e ∙ sym e') ∙ e) (λ j h. view_at j h)))

  -- the whole text
  parts_text : (pasts : List EventList) (t : Bool)
      → lines_text (cond t (past_part (map entries_in pasts) ++ view_part numbers (beginnings lengths rows)) (view_part numbers (beginnings lengths rows)))
      ≡ cond t ((past_heading ++ 10 ∷ []) ++ pieces_from (past_piece pasts) 0 (length pasts)) [] ++ view_bytes numbers lengths rows
  parts_text pasts true =
      lines_append (past_part (map entries_in pasts)) (view_part numbers (beginnings lengths rows))
      ∙ ap₂ (λ (x y : List ℕ). x ++ y) (past_text pasts) view_text
  parts_text pasts false = view_text

  pub text_is : (c : Criterion) (pasts : List EventList)
      → text_of c numbers (map entries_in pasts) (beginnings lengths rows) ≡ first_bytes c ++ (past_bytes c pasts ++ view_bytes numbers lengths rows)
  unfolding text_of criterion_text
  text_is c pasts =
      lines_more (criterion_text c) _ ∙ ap (λ (t : List ℕ). first_bytes c ++ t) (parts_text pasts (has_pasts c))
