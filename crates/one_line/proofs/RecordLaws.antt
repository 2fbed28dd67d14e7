-- What is found of a record, and the line that is made of it, are those of the lists. Assumes nothing.
use mathlib.Core.Path.{◌≡◌, refl, sym, ap, ap₂, ◌∙◌}
use mathlib.Core.Bool.{Bool, true, false, not, ◌&&◌, ◌||◌, cond}
use mathlib.Core.List.{List, [], ◌∷◌, ◌++◌}
use mathlib.Core.Option.{none, some}
use Prim.Native.Nat.{ℕ, zero, suc, ◌+◌, ◌≤◌, ◌<◌}
use native.Mathlib.Omega.{arith}
use lib.Dec.{eqb}
use lib.ListN.{length, get_or, take, replicate}
use lib.Seq.{get_or-take, length-take-le}
use borrow.Author.Tests.{lt-ltb, le-ltb}
use Rattle.layout.proofs.Cases.{and-false}
use Rattle.history.specs.declared.record.History as WrittenHistory
use Rattle.history.specs.Record.{no_event, events_in}
use Rattle.history.specs.Readable.{within}
use Rattle.history.proofs.PadLaws.{pad-none}
use Rattle.certificate.specs.declared.record.Criterion.TheVariants.{Sequential}
use Rattle.certificate.specs.declared.record.EventList.{EventList}
use Rattle.certificate.specs.declared.record.Certificate as WrittenCertificate
use Rattle.certificate.specs.Record.{no_list, event_list_of, entries_in}
use Rattle.certificate.specs.Criteria.{has_pasts}
use Rattle.criteria.specs.Tests.{any, table, one}
use Rattle.criteria.specs.History.{Event, event}
use Rattle.criteria.specs.Certificate.{order}
use Rattle.criteria.specs.OneLine.{is_update, update, crosses, tally, updates_before, line_place, by_place, one_line, in_one_line}
use Rattle.criteria.specs.Records.{event_of, history_of, certificate_of}
use Rattle.criteria.proofs.RecordLaws.{size_is, event-is}
use Rattle.orders.specs.Rows.{in_row, in_rows}
use Rattle.orders.proofs.BitLaws.{any_same}
use Rattle.faults.proofs.CheckLaws.{size_of, few-of}
use Rattle.weakened.specs.declared.views.ViewRows.{ViewRows}
use Rattle.weakened.specs.Steps.{view_rows_of}
use Rattle.weakened.proofs.CausalLaws.{keep-below}
use Rattle.orders.proofs.CutLaws.{entries-listed}
use Rattle.weakened_records.specs.declared.records.ViewedRecord.{ViewedRecord}
use Rattle.weakened_records.specs.Steps.{IsRecordOf}
use Rattle.weakened_records.proofs.RecordLaws.{record-made}
use Rattle.one_line.specs.Steps.{update_in, unordered_to, crosses_at, place_in}
use Rattle.one_line.proofs.UpdateLaws.{RowOf}
use Rattle.one_line.proofs.LineLaws.{tally-same, tally-beyond}

-- events with the same places have the same line
same-places : (n : ℕ) (f g : ℕ → ℕ) → ((e : ℕ) → e < n → f e ≡ g e) → (m : ℕ) → by_place n f m ≡ by_place n g m
same-places n f g h zero = refl
same-places n f g h (suc m) =
    ap₂ (λ (a b : List ℕ). a ++ b) (same-places n f g h m)
    (keep-below (λ e. eqb (f e) m) (λ e. eqb (g e) m) n (λ e l. ap (λ (k : ℕ). eqb k m) (h e l)))

-- the first n places of an array
pub first-places : (places : List ℕ) (n : ℕ) → n ≤ length places
    → by_place (length (take n places)) (λ e. get_or (take n places) e 0) (length (take n places) + length (take n places) + 2) ≡ by_place n (λ e. get_or places e 0) (n + n + 2)
first-places places n h =
    ap (λ (m : ℕ). by_place m (λ e. get_or (take n places) e 0) (m + m + 2)) (length-take-le n places h)
    ∙ same-places n (λ e. get_or (take n places) e 0) (λ e. get_or places e 0) (λ e l. get_or-take n places e 0 l) (n + n + 2)

module _ (h : WrittenHistory.History) (w : within h ≡ true) where
  op-is : (e : ℕ) → e < h.count → (get_or (events_in h) e no_event).op ≡ (event (history_of h) e).op
  unfolding event_of
  op-is e l = sym (ap (λ (x : Event). x.op) (event-is h e (omega (arith, l, size_is h, size_of h w))))

  module _ (rows : List ℕ) (updates : ℕ) (u : RowOf updates h.count (update_in (events_in h))) where
    update-is : (e : ℕ) → e < h.count → in_row updates e ≡ update (history_of h) e
    update-is e l = u e ∙ ap (λ (b : Bool). b && update_in (events_in h) e) (lt-ltb e h.count l) ∙ ap is_update (op-is e l)

    no-update : (e : ℕ) → h.count ≤ e → in_row updates e ≡ false
    no-update e l = u e ∙ ap (λ (b : Bool). b && update_in (events_in h) e) (le-ltb e h.count l)

    -- whether two updates are unordered
    pub crosses-is : any h.count (crosses_at rows updates h.count) ≡ crosses (history_of h) (in_rows rows)
    unfolding crosses
    crosses-is =
        any_same h.count (crosses_at rows updates h.count)
        (λ a. update (history_of h) a && any h.count (λ b. update (history_of h) b && not (eqb a b) && not (in_rows rows a b || in_rows rows b a)))
        (λ a l. ap₂ (λ (s t : Bool). s && t) (update-is a l)
        (any_same h.count (unordered_to rows updates a) (λ b. update (history_of h) b && not (eqb a b) && not (in_rows rows a b || in_rows rows b a))
        (λ b k. ap (λ (t : Bool). t && not (eqb a b) && not (in_rows rows a b || in_rows rows b a)) (update-is b k))))
        ∙ ap (λ (n : ℕ). any n (λ a. update (history_of h) a && any n (λ b. update (history_of h) b && not (eqb a b) && not (in_rows rows a b || in_rows rows b a))))
        (sym (size_of h w))

    -- the place of an event
    counted : (e : ℕ) → tally 64 (λ f. in_rows rows f e && in_row updates f) ≡ updates_before (history_of h) (in_rows rows) e
    unfolding updates_before
    counted e =
        tally-beyond 64 h.count (λ f. in_rows rows f e && in_row updates f) (few-of h w)
        (λ f l. ap (λ (b : Bool). in_rows rows f e && b) (no-update f l) ∙ and-false (in_rows rows f e))
        ∙ tally-same h.count (λ f. in_rows rows f e && in_row updates f) (λ f. in_rows rows f e && update (history_of h) f)
        (λ f l. ap (λ (b : Bool). in_rows rows f e && b) (update-is f l))
        ∙ ap (λ (n : ℕ). tally n (λ f. in_rows rows f e && update (history_of h) f)) (sym (size_of h w))

    place_is : (e : ℕ) → e < h.count → place_in rows updates e ≡ line_place (history_of h) (in_rows rows) e
    unfolding line_place
    place_is e l = ap₂ (λ (i j : ℕ). i + i + j) (counted e) (ap one (update-is e l))

    -- the line
    pub line-is : (places : List ℕ) → ((e : ℕ) → e < h.count → get_or places e 0 ≡ place_in rows updates e)
        → by_place h.count (λ e. get_or places e 0) (h.count + h.count + 2) ≡ one_line (history_of h) (in_rows rows)
    unfolding one_line
    line-is places p =
        same-places h.count (λ e. get_or places e 0) (line_place (history_of h) (in_rows rows)) (λ e l. p e l ∙ place_is e l) (h.count + h.count + 2)
        ∙ ap (λ (n : ℕ). by_place n (line_place (history_of h) (in_rows rows)) (n + n + 2)) (sym (size_of h w))

-- the record of the line
module _ (h : WrittenHistory.History) (c : WrittenCertificate.Certificate) (views : List (List ℕ)) (t : has_pasts c.criterion ≡ true) where
  lists-are : (v : List ℕ) → v ≡ one_line (history_of h) (order (history_of h) (certificate_of h c views))
      → in_one_line (history_of h) (certificate_of h c views) ≡ some record { criterion = Sequential; pasts = []; views = v ∷ [] }
  unfolding in_one_line certificate_of
  lists-are v q =
      ap (λ (b : Bool). cond b (some record { criterion = Sequential; pasts = []; views = one_line (history_of h) (order (history_of h) (certificate_of h c views)) ∷ [] }) none) t
      ∙ ap (λ (l : List ℕ). some record { criterion = Sequential; pasts = []; views = l ∷ [] }) (sym q)

  pub record_is : (l : EventList) → l ≡ event_list_of (one_line (history_of h) (order (history_of h) (certificate_of h c views)))
      → (pasts : List EventList) → pasts ≡ replicate 64 no_list → (made : ViewRows) → made ≡ view_rows_of (table 1 (λ _. entries_in l))
      → (r : ViewedRecord) → (r.certificate ≡ record { criterion = Sequential; pasts = pasts; lengths = made.lengths }) × (r.views ≡ made.rows)
      → IsRecordOf (in_one_line (history_of h) (certificate_of h c views)) r.certificate r.views
  record_is l q pasts p made a r built =
      record-made _ Sequential [] (entries_in l ∷ []) r pasts made built
      (lists-are (entries_in l) (entries-listed l _ q))
      (p ∙ sym (pad-none 64 no_list)) (ap (λ (x : ViewRows). x.rows) a) (ap (λ (x : ViewRows). x.lengths) a)
