-- Rows in order, none of which has the name of the one before it, have no rivals.
use Rattle.dv_stage.proofs.Vocabulary.{Contains, HasNoRivals, IsStrictlySortedBy, Less, List, NRow, None, Option, Some, and_parts, are_rivals, false, false_from_ne_true, first_neighbour, get_or, is_some, length, ordering_then, refl, refs_eq, refs_eq-Decides, refs_exact, refs_total, repeats_name}
use Rattle.dv_stage.proofs.Vocabulary.{row_cmp, share_name, slice_cmp, sym, text_cmp, texts_eq, texts_eq-Decides, texts_exact, texts_total, true, ℕ, ◌<◌, ◌≡◌}
use Rattle.dv_stage.proofs.{Neighbouring.by_places, Neighbouring.none_pass, Neighbouring.tied, RivalFacts.no_rival_of_itself, RivalFacts.rival_parts, RivalFacts.rivals-turned}

-- rows of one name have the same references and the same sub
one_name : (a b : NRow) → a.refs ≡ b.refs → a.sub ≡ b.sub → share_name a b ≡ true
one_name a b refs sub = rw ((refs_eq-Decides b.refs a.refs).1 (sym refs), (texts_eq-Decides b.sub a.sub).1 (sym sub)) refl

-- a row between two of one name has the name too
between : (a b c : NRow) → row_cmp a b ≡ Less → row_cmp b c ≡ Less → share_name a c ≡ true → share_name a b ≡ true
between a b c before behind shared =
    let (refs, sub) = and_parts (refs_eq c.refs a.refs) (texts_eq c.sub a.sub) shared in
    let by_refs = tied refs_total a.refs b.refs (ordering_then (slice_cmp text_cmp a.sub b.sub) (slice_cmp text_cmp a.attrs b.attrs))
    (ordering_then (slice_cmp text_cmp b.sub a.sub) (slice_cmp text_cmp b.attrs c.attrs)) before
    (rw ((refs_eq-Decides c.refs a.refs).0 refs, (texts_eq-Decides c.sub a.sub).0 sub) at behind) in
    let by_sub = tied texts_total a.sub b.sub (slice_cmp text_cmp a.attrs b.attrs) (slice_cmp text_cmp b.attrs c.attrs) by_refs.1 by_refs.2 in
    one_name a b (refs_exact a.refs b.refs by_refs.0) (texts_exact a.sub b.sub by_sub.0)

pub names_apart : (rows : List NRow) → IsStrictlySortedBy row_cmp rows → repeats_name rows ≡ false → HasNoRivals rows
names_apart rows up once a b has_a has_b =
    false_from_ne_true (are_rivals a b) (λ rivals.
    by_places rows a b has_a has_b (λ same. no_rival_of_itself a b same rivals)
    (λ i j before inside at_a at_b. alone i j a b before inside at_a at_b rivals)
    (λ i j before inside at_b at_a. alone i j b a before inside at_b at_a (rivals-turned a b rivals)))
  where
    none : (o : Option NRow) → is_some o ≡ false → o ≡ None
    none None e = refl
    none (Some x) e = cc

    alone : (i j : ℕ) (a b : NRow) → i < j → j < length rows → get_or rows i a ≡ a → get_or rows j b ≡ b → are_rivals a b ≡ true → ⊥
    alone i j a b before inside at_a at_b rivals =
        let parts = rival_parts a b rivals in
        none_pass share_name row_cmp between rows i j a b up (none (first_neighbour share_name rows) once) before inside at_a at_b (one_name a b parts.0 parts.1)

-- rows that are all among others without rivals have none
pub apart_among : (rows others : List NRow) → ((row : NRow) → Contains rows row → Contains others row) → HasNoRivals others → HasNoRivals rows
apart_among rows others among apart a b has_a has_b = apart a b (among a has_a) (among b has_b)
