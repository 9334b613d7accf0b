-- The records that are left, one by one: what a loop over a reader's records goes by.
use Rattle.dv_stage.proofs.Vocabulary.{Bor, Config, IsExtractReader, IsSome, List, None, Option, Reached, Read, ReadRecord, Reader, Some, State, [], ap, arith, bytes_left, default_config, ends_at_end, false, inl, length, next_record, none-some, records_from, records_left, records_next, refl}
use Rattle.dv_stage.proofs.Vocabulary.{rest_records, rows-end, rows-more, source_of, suc, sym, true, zero, ℕ, ◌<◌, ◌∙◌, ◌∷◌, ◌≡◌}
use Rattle.dv_stage.proofs.RecordsFacts.{next_record-takes}

has_byte : (cfg : Config) (s : State) (xs : List ℕ) (p : Read) → ends_at_end s ≡ false → next_record cfg s [] [] xs ≡ Some p → 0 < length xs
unfolding next_record
has_byte cfg s [] p b e = absurd (none-some p (rw b at e))
has_byte cfg s (x ∷ xs) p b e = omega arith

-- more turns than bytes make no difference
turns : (cfg : Config) (n m : ℕ) (s : State) (xs : List ℕ) → length xs < n → length xs < m → ends_at_end s ≡ false → records_from cfg n s xs ≡ records_from cfg m s xs
unfolding records_from
turns cfg zero m s xs hn hm b = absurd (omega (arith, hn))
turns cfg (suc n) zero s xs hn hm b = absurd (omega (arith, hm))
turns cfg (suc n) (suc m) s xs hn hm b = by (next_record cfg s [] [] xs) refl (λ p. turns cfg n m p.1 p.2)
  where
    by : (o : Option Read) → next_record cfg s [] [] xs ≡ o → ((p : Read) → length p.2 < n → length p.2 < m → ends_at_end p.1 ≡ false → records_from cfg n p.1 p.2 ≡ records_from cfg m p.1 p.2)
        → records_next (records_from cfg n) o ≡ records_next (records_from cfg m) o
    by None e more = refl
    by (Some p) e more =
        let taken = next_record-takes cfg s [] [] xs p e in
        let some : 0 < length xs = has_byte cfg s xs p b e in
        ap (λ rs. p.0 ∷ rs) (more p (omega (arith, taken.1, some, hn)) (omega (arith, taken.1, some, hm)) taken.0)

-- the next record, and those after it
pub rest-some : (s : State) (xs : List ℕ) (p : Read) → ends_at_end s ≡ false → next_record default_config s [] [] xs ≡ Some p → (rest_records s xs ≡ p.0 ∷ rest_records p.1 p.2) × (ends_at_end p.1 ≡ false)
unfolding records_from
rest-some s xs p b e =
    let taken = next_record-takes default_config s [] [] xs p e in
    let some : 0 < length xs = has_byte default_config s xs p b e in
    (rw e (ap (λ rs. p.0 ∷ rs) (turns default_config (length xs) (suc (length p.2)) p.1 p.2 (omega (arith, taken.1, some)) (omega arith) taken.0)), taken.0)

-- none is left
pub rest-none : (s : State) (xs : List ℕ) → next_record default_config s [] [] xs ≡ None → rest_records s xs ≡ []
unfolding records_from
rest-none s xs e = rw e refl

-- the same, with its parts by name
rest-taken : (s s2 : State) (y z : List ℕ) (fields : List (List ℕ)) (p : Read) → ends_at_end s ≡ false → next_record default_config s [] [] y ≡ Some p → fields ≡ p.0 → p.1 ≡ s2 → p.2 ≡ z
    → (rest_records s y ≡ fields ∷ rest_records s2 z) × (ends_at_end s2 ≡ false)
rest-taken s s2 y z fields p b e f state rest =
    let step = rest-some s y p b e in
    (rw (f, ← state, ← rest) step.0, rw (← state) step.1)

-- what a read of a reader says of the records that are left
pub rest-read : {R : Type 0} (rem : R → Option (List ℕ)) (a b : Reader R) (fields : List (List ℕ)) (y : List ℕ) → a.config ≡ default_config → source_of rem a ≡ Some y → ends_at_end a.state ≡ false
    → ReadRecord rem a b true fields → (z : List ℕ) × (source_of rem b ≡ Some z) × (rest_records a.state y ≡ fields ∷ rest_records b.state z) × (ends_at_end b.state ≡ false)
unfolding Reached
rest-read rem a b fields y config source between r =
    let m = rows-more rem a b fields default_config a.state y y [] config source (refl, refl) r in
    let step = rest-taken a.state b.state y m.0 fields m.2.0 between m.2.1 m.2.2 m.2.3.0 m.2.3.1 in
    (m.0, m.1, step.0, step.1)

pub rest-end : {R : Type 0} (rem : R → Option (List ℕ)) (a b : Reader R) (fields : List (List ℕ)) (y : List ℕ) → a.config ≡ default_config → source_of rem a ≡ Some y
    → ReadRecord rem a b false fields → rest_records a.state y ≡ []
rest-end rem a b fields y config source r = rest-none a.state y (rows-end rem a b fields default_config y config source r)

-- a known text by name
known_text : (o : Option (List ℕ)) → IsSome o → (y : List ℕ) × (o ≡ Some y)
known_text None h = cc h
known_text (Some y) h = (y, refl)

-- what is left of the records, by the text that is left
left_of : (r : Reader (Bor (List ℕ))) (y : List ℕ) → bytes_left r ≡ Some y → records_left r ≡ rest_records r.state y
left_of r y e = rw e refl

-- a read that found a record
pub left-read : (a b : Reader (Bor (List ℕ))) (fields : List (List ℕ)) → IsExtractReader a → ReadRecord (λ s. Some s.now) a b true fields → b.first ≡ true → b.flexible ≡ a.flexible
    → IsExtractReader b × (records_left a ≡ fields ∷ records_left b)
left-read a b fields h r first flexible =
    let (y, at) = known_text (bytes_left a) h.known in
    let (z, next, step, between) = rest-read (λ (s : Bor (List ℕ)). Some s.now) a b fields y h.settings at h.between r in (
      record { plain = r.3 ∙ h.plain; ready = inl first; lets = flexible ∙ h.lets; settings = r.2 ∙ h.settings; between = between; known = rw next refl },
      left_of a y at ∙ step ∙ ap (λ rs. fields ∷ rs) (sym (left_of b z next)),
    )

-- a read that found none
pub left-end : (a b : Reader (Bor (List ℕ))) (fields : List (List ℕ)) → IsExtractReader a → ReadRecord (λ s. Some s.now) a b false fields → records_left a ≡ []
left-end a b fields h r =
    let (y, at) = known_text (bytes_left a) h.known in
    left_of a y at ∙ rest-end (λ (s : Bor (List ℕ)). Some s.now) a b fields y h.settings at r

pub ruleset left_records = (left-end, left-read)
