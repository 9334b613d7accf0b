-- What holds of each table of a feed holds of the tables of all feeds.
use Rattle.dv_vault.proofs.Vocabulary.{Contains, Contains-append_cases, Contains-cons_cases, Contains-nil, FeedDef, List, Some, TableId, [], arith, effect_tables, feed_tables, inl, inr, refl, sat_tables, slice_get, subst, suc, ℕ, ◌++◌, ◌+◌, ◌∷◌, ◌≡◌}
use Rattle.dv_catalog.specs.declared.tables.TableId.TheVariants as ids

-- a property of the tables that a feed may have
pub record OfFeed (P : TableId → Type 0) (n : ℕ) (definition : FeedDef) : Type 0 where
  pub sat : definition.sub ≡ [] → P (ids.Sat n)
  pub multi : P (ids.Multi n)
  pub status : P (ids.Status n)
  pub effect : P (ids.Effect n)

module _ (P : TableId → Type 0) where
  of_sats : (n : ℕ) (definition : FeedDef) → OfFeed P n definition → (sub attrs : List (List ℕ)) → definition.sub ≡ sub → (id : TableId) → Contains (sat_tables n sub attrs) id → P id
  of_sats n definition of sub [] is id has = Contains-nil id has
  of_sats n definition of [] (a ∷ attrs) is id has =
      elim (Contains-cons_cases (ids.Sat n) [] id has) [ inl same ↦ subst P same (of.sat is) | inr none ↦ Contains-nil id none ]
  of_sats n definition of (s ∷ sub) (a ∷ attrs) is id has =
      elim (Contains-cons_cases (ids.Multi n) [] id has) [ inl same ↦ subst P same of.multi | inr none ↦ Contains-nil id none ]

  of_effects : (n : ℕ) → P (ids.Effect n) → (driver : List ℕ) (id : TableId) → Contains (effect_tables n driver) id → P id
  of_effects n of [] id has = Contains-nil id has
  of_effects n of (d ∷ driver) id has =
      elim (Contains-cons_cases (ids.Effect n) [] id has) [ inl same ↦ subst P same of | inr none ↦ Contains-nil id none ]

  of_feed : (n : ℕ) (definition : FeedDef) → OfFeed P n definition
      → (id : TableId) → Contains (sat_tables n definition.sub definition.attrs ++ ids.Status n ∷ effect_tables n definition.driver) id → P id
  of_feed n definition of id has =
      elim (Contains-append_cases (sat_tables n definition.sub definition.attrs) (ids.Status n ∷ effect_tables n definition.driver) id has) [
        | inl sat ↦ of_sats n definition of definition.sub definition.attrs refl id sat
        | inr more ↦
            elim (Contains-cons_cases (ids.Status n) (effect_tables n definition.driver) id more) [
              | inl same ↦ subst P same of.status
              | inr effect ↦ of_effects n of.effect definition.driver id effect
            ]
      ]

  -- feeds that are counted from a number
  pub of_feeds : (n : ℕ) (feeds : List FeedDef) → ((i k : ℕ) (definition : FeedDef) → k ≡ n + i → slice_get feeds i ≡ Some definition → OfFeed P k definition)
      → (id : TableId) → Contains (feed_tables n feeds) id → P id
  of_feeds n [] each id has = Contains-nil id has
  of_feeds n (definition ∷ feeds) each id has =
      elim (Contains-append_cases (sat_tables n definition.sub definition.attrs ++ ids.Status n ∷ effect_tables n definition.driver) (feed_tables (n + 1) feeds) id has) [
        | inl here ↦ of_feed n definition (each 0 n definition (omega arith) refl) id here
        | inr rest ↦ of_feeds (n + 1) feeds (λ i k other e got. each (suc i) k other (omega (arith, e)) got) id rest
      ]
