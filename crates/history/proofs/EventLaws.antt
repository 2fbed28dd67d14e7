-- Laws of the line of an event. Assumes nothing.
use Prim.Native.Nat.{ℕ, ◌<◌}
use mathlib.Core.Path.{◌≡◌}
use mathlib.Core.Bool.{Bool, true, ◌&&◌, ◌||◌}
use mathlib.Core.List.{List, []}
use lib.ListN.{length, get_or}
use lib.Dec.{leb, ltb}
use borrow.Author.Tests.{eq-eqb, ne_eqb, ltb-true}
use Rattle.std.specs.Prelude.{Ok, Err}
use Rattle.layout.specs.Split.{split}
use Rattle.layout.specs.Word.{same, dash}
use Rattle.layout.specs.Number.{is_number, value, spell}
use Rattle.layout.specs.List.{all_numbers, all_below}
use Rattle.layout.proofs.Cases.{by_bool, and_left, and_right}
use Rattle.history.specs.declared.record.Object.{Object}
use Rattle.history.specs.declared.record.Event.{Event}
use Rattle.history.specs.Record.{value_bound}
use Rattle.history.specs.Kinds.{is_op, op_of, has_op, takes_value, may_answer}
use Rattle.history.specs.declared.fault.Fault.{Fault}
use Rattle.history.specs.declared.fault.Fault.TheVariants.{Layout, Limits}
use Rattle.history.specs.Faults.{fault_number, first_fault, is_optional, optional, answer_items, answer_said, event_layout, event_limits, event_fits, event_long, object_named, event_fault, faulty_event, event_with, event_said, event_six, event_fields, event_line}
use Rattle.history.specs.Steps.Fields.{value_said, answer_short, fields_said, answered, six_said}
use Rattle.history.specs.declared.event.Said.{Said}

-- ---- an event, or its fault
module _ (fault : ℕ) (e : Event) where
  pub with-faulty : (fault ≡ 0 → ⊥) → event_with fault e ≡ faulty_event fault
  with-faulty h = rw (ne_eqb fault 0 h)

  pub with-event : fault ≡ 0 → event_with fault e ≡ record { fault = 0; event = e }
  with-event h = rw (eq-eqb fault 0 h)

-- what the layout of six fields says of each
pub record Laid (own : ℕ) (a p o w v s : List ℕ) : Type 0 where
  pub numbered : same a (spell own) ≡ true
  pub process : is_number p ≡ true
  pub object : is_number o ≡ true
  pub op : is_op w ≡ true
  pub given : is_optional v ≡ true
  pub answer : all_numbers (answer_items s) ≡ true

pub laid : (own : ℕ) (a p o w v s : List ℕ) → event_layout own a p o w v s ≡ true → Laid own a p o w v s
unfolding event_layout
laid own a p o w v s e =
    let b₂ : Bool = same a (spell own) && is_number p in
    let b₃ : Bool = b₂ && is_number o in
    let b₄ : Bool = b₃ && is_op w in
    let b₅ : Bool = b₄ && is_optional v in
    let e₅ = and_left b₅ (all_numbers (answer_items s)) e in
    let e₄ = and_left b₄ (is_optional v) e₅ in
    let e₃ = and_left b₃ (is_op w) e₄ in
    let e₂ = and_left b₂ (is_number o) e₃ in
    record {
      numbered = and_left (same a (spell own)) (is_number p) e₂;
      process = and_right (same a (spell own)) (is_number p) e₂;
      object = and_right b₂ (is_number o) e₃;
      op = and_right b₃ (is_op w) e₄;
      given = and_right b₄ (is_optional v) e₅;
      answer = and_right b₅ (all_numbers (answer_items s)) e;
    }

-- what their limits say of each
pub record Limited (own declared : ℕ) (p o v s : List ℕ) : Type 0 where
  pub numbered : ltb own 64 ≡ true
  pub process : ltb (value p) 8 ≡ true
  pub object : ltb (value o) declared ≡ true
  pub given : same v dash || ltb (value v) value_bound ≡ true
  pub answer : all_below value_bound (answer_items s) ≡ true

pub limited : (own declared : ℕ) (p o v s : List ℕ) → event_limits own declared p o v s ≡ true → Limited own declared p o v s
unfolding event_limits
limited own declared p o v s e =
    let b₂ : Bool = ltb own 64 && ltb (value p) 8 in
    let b₃ : Bool = b₂ && ltb (value o) declared in
    let b₄ : Bool = b₃ && (same v dash || ltb (value v) value_bound) in
    let e₄ = and_left b₄ (all_below value_bound (answer_items s)) e in
    let e₃ = and_left b₃ (same v dash || ltb (value v) value_bound) e₄ in
    let e₂ = and_left b₂ (ltb (value o) declared) e₃ in
    record {
      numbered = and_left (ltb own 64) (ltb (value p) 8) e₂;
      process = and_right (ltb own 64) (ltb (value p) 8) e₂;
      object = and_right b₂ (ltb (value o) declared) e₃;
      given = and_right b₃ (same v dash || ltb (value v) value_bound) e₄;
      answer = and_right b₄ (all_below value_bound (answer_items s)) e;
    }

-- ---- what fields say that are laid out as they should be and within their limits
record Says (own : ℕ) (os : List Object) (a p o w v s : List ℕ) (said : Said) : Type 0 where
  layout : event_layout own a p o w v s ≡ true
  limits : event_limits own (length os) p o v s ≡ true
  is : said ≡ record { process = record { 0 = value p }; object = value o; op = op_of w; value = value_said v; answer = answer_short s }

module _ (own : ℕ) (os : List Object) (a p o w v s : List ℕ) (said : Said) (q : Ok said ≡ fields_said own (length os) a p o w v s) where
  says : Says own os a p o w v s said
  unfolding fields_said
  says =
      by_bool (event_layout own a p o w v s)
      (λ l. by_bool (event_limits own (length os) p o v s)
      (λ m. let e = rw (l, m) at q in record { layout = l; limits = m; is = cc })
      (λ m. let e = rw (l, m) at q in absurd (cc)))
      (λ l. let e = rw l at q in absurd (cc))

  pub said_object : said.object < length os
  unfolding event_limits
  said_object = let h = says in rw h.is (ltb-true (value o) (length os) (limited own (length os) p o v s h.limits).object)

  pub said_six : event_six own os a p o w v s ≡ six_said os said
  unfolding event_six event_fault first_fault event_fits event_long event_said optional value_said answer_short six_said answered
  said_six =
      let h = says in
      rw (h.is, h.layout, h.limits)
      (by_bool (has_op (object_named os o).kind (op_of w))
      (λ k. by_bool (same v dash)
      (λ d. by_bool (takes_value (op_of w))
      (λ t. rw (k, d, t))
      (λ t. by_bool (leb (length (answer_items s)) 8)
      (λ l. by_bool (may_answer (object_named os o) (op_of w) (answer_said s)) (λ m. rw (k, d, t, l, m)) (λ m. rw (k, d, t, l, m)))
      (λ l. rw (k, d, t, l))))
      (λ d. by_bool (takes_value (op_of w))
      (λ t. by_bool (leb (length (answer_items s)) 8)
      (λ l. by_bool (may_answer (object_named os o) (op_of w) (answer_said s)) (λ m. rw (k, d, t, l, m)) (λ m. rw (k, d, t, l, m)))
      (λ l. rw (k, d, t, l)))
      (λ t. rw (k, d, t))))
      (λ k. rw k))

pub fault_six : (own : ℕ) (os : List Object) (a p o w v s : List ℕ) (f : Fault) → Err f ≡ fields_said own (length os) a p o w v s
    → event_six own os a p o w v s ≡ faulty_event (fault_number f)
unfolding event_six event_fault first_fault fields_said
fault_six own os a p o w v s f q =
    by_bool (event_layout own a p o w v s)
    (λ l. by_bool (event_limits own (length os) p o v s)
    (λ m. let e = rw (l, m) at q in absurd (cc))
    (λ m. let e : f ≡ Limits = let e = rw (l, m) at q in cc in rw (e, l, m)))
    (λ l. let e : f ≡ Layout = let e = rw l at q in cc in rw (e, l))

-- ---- the line, by its fields
module _ (own : ℕ) (os : List Object) (line : List ℕ) (fs : List (List ℕ)) (cut : split 32 line ≡ fs) where
  pub event-count : (length fs ≡ 6 → ⊥) → event_line own os line ≡ faulty_event 2
  unfolding event_line event_fields
  event-count h = rw (cut, ne_eqb (length fs) 6 h)

  pub event-six : length fs ≡ 6
      → event_line own os line ≡ event_six own os (get_or fs 0 []) (get_or fs 1 []) (get_or fs 2 []) (get_or fs 3 []) (get_or fs 4 []) (get_or fs 5 [])
  unfolding event_line event_fields
  event-six h = rw (cut, eq-eqb (length fs) 6 h)
