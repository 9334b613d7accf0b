-- The list of all records of a text, from its records one by one.
use Rattle.dv_stage.proofs.Vocabulary.{Action, Bool, Config, List, None, Read, Some, State, Terminator, [], after_end, arith, carriage_return, ends_at_end, ends_with, false, field_after, fields_after, if◌then◌else◌, in_field, is_byte, is_end, length, line_feed, next_record, refl, same_Some}
use Rattle.dv_stage.proofs.Vocabulary.{start_field, start_record, step, subst, true, ℕ, ◌&&◌, ◌++◌, ◌-◌, ◌==◌, ◌∷◌, ◌≡◌, ◌≤◌}
use Rattle.csv.specs.declared.parser.Terminator.TheVariants as term
use Rattle.csv.specs.declared.parser.State.TheVariants as st
use Rattle.csv.specs.declared.parser.Action.TheVariants as act

-- an answer of the machine that ends a record leaves it between records
abbrev pub Closes : State × Action → Type 0
Closes p = is_end p.1 ≡ true → ends_at_end p.0 ≡ false

choose : (b : Bool) (p q : State × Action) → Closes p → Closes q → Closes (if b then p else q)
choose true p q a b = a
choose false p q a b = b

after_end-closes : (t : Terminator) (c : ℕ) → ends_at_end (after_end t c) ≡ false
after_end-closes term.CRLF c = by (c == carriage_return)
  where
    by : (b : Bool) → ends_at_end (if b then st.AfterCr else st.StartRecord) ≡ false
    by true = refl
    by false = refl
after_end-closes (term.Any t) c = refl

in_field-closes : (cfg : Config) (c : ℕ) → Closes (in_field cfg c)
in_field-closes cfg c =
    choose (c == cfg.delimiter) (st.StartField, act.EndField) (if ends_with cfg.terminator c then (after_end cfg.terminator c, act.EndRecord) else (st.InField, act.Copy))
    (λ e. cc)
    (choose (ends_with cfg.terminator c) (after_end cfg.terminator c, act.EndRecord) (st.InField, act.Copy) (λ e. after_end-closes cfg.terminator c) (λ e. cc))

start_field-closes : (cfg : Config) (c : ℕ) → Closes (start_field cfg c)
start_field-closes cfg c = choose (cfg.quoting && (c == cfg.quote)) (st.InQuoted, act.Skip) (in_field cfg c) (λ e. cc) (in_field-closes cfg c)

start_record-closes : (cfg : Config) (c : ℕ) → Closes (start_record cfg c)
start_record-closes cfg c =
    choose (ends_with cfg.terminator c) (st.StartRecord, act.Skip) (if is_byte cfg.comment c then (st.InComment, act.Skip) else start_field cfg c) (λ e. cc)
    (choose (is_byte cfg.comment c) (st.InComment, act.Skip) (start_field cfg c) (λ e. cc) (start_field-closes cfg c))

pub step-closes : (cfg : Config) (s : State) (c : ℕ) → Closes (step cfg s c)
step-closes cfg st.StartRecord c = start_record-closes cfg c
step-closes cfg st.StartField c = start_field-closes cfg c
step-closes cfg st.InField c = in_field-closes cfg c
step-closes cfg st.InQuoted c =
    choose (cfg.quoting && (c == cfg.quote)) (st.AfterQuote, act.Skip) (if cfg.quoting && is_byte cfg.escape c then (st.InEscape, act.Skip) else (st.InQuoted, act.Copy)) (λ e. cc)
    (choose (cfg.quoting && is_byte cfg.escape c) (st.InEscape, act.Skip) (st.InQuoted, act.Copy) (λ e. cc) (λ e. cc))
step-closes cfg st.InEscape c = λ e. cc
step-closes cfg st.AfterQuote c =
    choose (cfg.quoting && cfg.double_quote && (c == cfg.quote)) (st.InQuoted, act.Copy) (in_field cfg c) (λ e. cc) (in_field-closes cfg c)
step-closes cfg st.InComment c = choose (c == line_feed) (st.StartRecord, act.Skip) (st.InComment, act.Skip) (λ e. cc) (λ e. cc)
step-closes cfg st.AfterCr c = choose (c == line_feed) (st.StartRecord, act.Skip) (start_record cfg c) (λ e. cc) (start_record-closes cfg c)

-- a record takes a byte, where there is one, and leaves the machine between records
pub next_record-takes : (cfg : Config) (s : State) (fields : List (List ℕ)) (field xs : List ℕ) (p : Read) → next_record cfg s fields field xs ≡ Some p
    → (ends_at_end p.1 ≡ false) × (length p.2 ≤ length xs - 1)
unfolding next_record
next_record-takes cfg s fields field [] p e = by (ends_at_end s) e
  where
    by : (b : Bool) → (if b then Some (fields ++ (field ∷ []), st.StartRecord, []) else None) ≡ Some p → (ends_at_end p.1 ≡ false) × (length p.2 ≤ length {A = ℕ} [] - 1)
    by true e =
        let same = same_Some (fields ++ (field ∷ []), st.StartRecord, []) p e in
        subst (λ (q : Read). (ends_at_end q.1 ≡ false) × (length q.2 ≤ length {A = ℕ} [] - 1)) same (refl, omega arith)
    by false e = cc e
next_record-takes cfg s fields field (c ∷ rest) p e =
    by (is_end (step cfg s c).1) refl e (next_record-takes cfg (step cfg s c).0 (fields_after (step cfg s c).1 fields field) (field_after (step cfg s c).1 c field) rest p)
  where
    by : (b : Bool) → is_end (step cfg s c).1 ≡ b
        → (if b then Some (fields_after (step cfg s c).1 fields field, (step cfg s c).0, rest)
        else next_record cfg (step cfg s c).0 (fields_after (step cfg s c).1 fields field) (field_after (step cfg s c).1 c field) rest) ≡ Some p
        → (next_record cfg (step cfg s c).0 (fields_after (step cfg s c).1 fields field) (field_after (step cfg s c).1 c field) rest ≡ Some p
        → (ends_at_end p.1 ≡ false) × (length p.2 ≤ length rest - 1))
        → (ends_at_end p.1 ≡ false) × (length p.2 ≤ length (c ∷ rest) - 1)
    by true ended e more =
        let same = same_Some (fields_after (step cfg s c).1 fields field, (step cfg s c).0, rest) p e in
        subst (λ (q : Read). (ends_at_end q.1 ≡ false) × (length q.2 ≤ length (c ∷ rest) - 1)) same (step-closes cfg s c ended, omega arith)
    by false on e more =
        let m = more e in
        (m.0, omega (arith, m.1))
