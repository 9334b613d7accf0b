-- What a vault's own facts say of a window that breaks no rule before the vault is looked at.
use Rattle.dv_window.proofs.Vocabulary.{Contains-append_right, Contains-cons_here, IfSome, IsNewWindow, List, Mapping, None, Option, RawVault, Rule, Some, Window, WindowHead, WindowIn, [], and_parts, ap, are_heads_of, are_in_order, arith, ascends, early_rule, false, feed_twice, first_of}
use Rattle.dv_window.proofs.Vocabulary.{found_member, given_rules, head_at, if◌then◌else◌, is_some, is_valid, is_window, last_sealed, late_after, late_by, later_ascends, length, list_all, map, nat_lt, nat_tests, no_extracts, open_other, option_map, option_or, or_none, passes_at, refl, sym}
use Rattle.dv_window.proofs.Vocabulary.{too_long, true, unknown_feed, window_of, window_of-is_window, window_rule, ℕ, ◌++◌, ◌==◌, ◌∙◌, ◌∷◌, ◌≡◌}

-- ---- the early rules, one by one

pub record PassesEarly (raw : RawVault) (begun : Option Window) (given : WindowIn) : Type 0 where
  pub some : no_extracts given ≡ None
  pub known : unknown_feed raw.mapping given ≡ None
  pub in_time : late_by raw.heads given.load ≡ None
  pub no_other : open_other begun given ≡ None
  pub reads : window_rule raw.mapping given ≡ None

pub early_parts : (raw : RawVault) (begun : Option Window) (given : WindowIn) → early_rule raw begun given ≡ None → PassesEarly raw begun given
early_parts raw begun given e =
    let (as_given, e1) = or_none (given_rules raw begun given) (first_of (window_rule raw.mapping given ∷ [])) e in
    let (reads, e2) = or_none (window_rule raw.mapping given) None e1 in
    let (some, e3) = or_none (no_extracts given) (first_of (unknown_feed raw.mapping given ∷ feed_twice given ∷ late_by raw.heads given.load ∷ open_other begun given ∷ too_long given ∷ [])) as_given in
    let (known, e4) = or_none (unknown_feed raw.mapping given) (first_of (feed_twice given ∷ late_by raw.heads given.load ∷ open_other begun given ∷ too_long given ∷ [])) e3 in
    let (once, e5) = or_none (feed_twice given) (first_of (late_by raw.heads given.load ∷ open_other begun given ∷ too_long given ∷ [])) e4 in
    let (in_time, e6) = or_none (late_by raw.heads given.load) (first_of (open_other begun given ∷ too_long given ∷ [])) e5 in
    let (no_other, e7) = or_none (open_other begun given) (first_of (too_long given ∷ [])) e6 in
    record { some = some; known = known; in_time = in_time; no_other = no_other; reads = reads }

pub early_none : (raw : RawVault) (begun : Option Window) (given : WindowIn) → given_rules raw begun given ≡ None → window_rule raw.mapping given ≡ None → early_rule raw begun given ≡ None
early_none raw begun given as_given reads =
    ap (λ (first : Option Rule). option_or first (option_or (window_rule raw.mapping given) None)) as_given
    ∙ ap (λ (read : Option Rule). option_or read None) reads

-- the window that is read is one of the mapping
pub read_whole : (raw : RawVault) (begun : Option Window) (given : WindowIn) → is_valid raw.mapping ≡ true → early_rule raw begun given ≡ None → is_window raw.mapping (window_of raw.mapping given) ≡ true
read_whole raw begun given valid e =
    let parts = early_parts raw begun given e in
    window_of-is_window raw.mapping valid given parts.some parts.known parts.reads

-- a new load date is later than all sealed ones
pub not_late : (raw : RawVault) (begun : Option Window) (given : WindowIn) → IsNewWindow raw begun given → late_after (last_sealed raw.heads) given.load ≡ None
not_late raw begun given passes =
    ap (λ (found : Option WindowHead). if is_some found then None else late_after (last_sealed raw.heads) given.load) (sym passes.is_new)
    ∙ (early_parts raw begun given passes.early).in_time

-- ---- the heads

-- the feeds of a head that is found are in the mapping
pub head_feeds : {R : Type 0} (seen : R → WindowHead) (found : Option R) (mapping : Mapping) (heads : List WindowHead) (load : ℕ) → are_heads_of mapping heads ≡ true
    → option_map seen found ≡ head_at load heads → IfSome found (λ head. list_all (λ feed. nat_lt feed (length mapping.feeds)) (seen head).feeds ≡ true)
head_feeds seen None mapping heads load are is = tt
head_feeds seen (Some head) mapping heads load are is =
    passes_at (λ head. list_all (λ feed. nat_lt feed (length mapping.feeds)) head.feeds) heads (seen head) are (found_member (λ head. head.load == load) heads (seen head) (sym is)).0

-- no head has a load date that is later than the last one
module _ (load : ℕ) where
  is_other : (early : ℕ) → nat_lt early load ≡ true → (early == load) ≡ false
  is_other early less = grind (arith, nat_tests)

  none_among : (heads : List WindowHead) → ascends (map (λ head. head.load) heads ++ load ∷ []) ≡ true → head_at load heads ≡ None
  none_among [] up = refl
  none_among (head ∷ heads) up =
      let loads : List ℕ = map (λ (head : WindowHead). head.load) heads ++ load ∷ [] in
      let (all, rest) = and_parts (list_all (nat_lt head.load) loads) (ascends loads) up in
      let less = passes_at (nat_lt head.load) loads load all (Contains-append_right (map (λ (head : WindowHead). head.load) heads) (load ∷ []) load (Contains-cons_here load [])) in
      rw (is_other head.load less) (none_among heads rest)

  pub none_later : (heads : List WindowHead) → are_in_order heads ≡ true → late_after (last_sealed heads) load ≡ None → head_at load heads ≡ None
  none_later heads up late = none_among heads (later_ascends heads load up late)
