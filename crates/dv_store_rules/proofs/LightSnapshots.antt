-- Heads of snapshots in which no flaw is found keep the limits of all.
use Rattle.dv_store_rules.proofs.Vocabulary.{Bool, KeepLimits, List, None, SnapHead, WindowHead, [], and_parts, append-nil, append_assoc, arith, false, first_along, flaw_behind, heads_weight, if_broken, is_after, is_later, is_snapshot, leb-true, length, length-append, ltb-true}
use Rattle.dv_store_rules.proofs.Vocabulary.{most_snapshot_weight, most_snapshots, nat_le, nat_lt, not, option_map, option_or, refl, snapshot_flaw, snapshot_rule, sum_by-append, sum_by-cons, true, ◌&&◌, ◌++◌, ◌+◌, ◌∷◌, ◌≡◌, ◌≤◌}

module _ (windows : List WindowHead) where
  -- a head that breaks no rule weighs no more than all may, with those before it
  pub light_with : (before : List SnapHead) (head : SnapHead) → is_snapshot windows before head ≡ true → heads_weight before + head.weight ≤ most_snapshot_weight
  light_with before head holds =
      let (abc, d) = and_parts (is_after before head.date && not (is_later windows head.date) && nat_le (heads_weight before + head.weight) most_snapshot_weight) (nat_lt (length before) most_snapshots) holds in
      leb-true _ _ (and_parts (is_after before head.date && not (is_later windows head.date)) (nat_le (heads_weight before + head.weight) most_snapshot_weight) abc).1

  -- one head that breaks no rule, behind some that keep the limits
  one_more : (before : List SnapHead) (head : SnapHead) → is_snapshot windows before head ≡ true → KeepLimits (before ++ head ∷ [])
  one_more before head holds =
      let (abc, d) = and_parts (is_after before head.date && not (is_later windows head.date) && nat_le (heads_weight before + head.weight) most_snapshot_weight) (nat_lt (length before) most_snapshots) holds in
      let light = light_with before head holds in
      let few = ltb-true _ _ d in
      let both = sum_by-append (λ (h : SnapHead). h.weight) before (head ∷ []) in
      let one = sum_by-cons (λ (h : SnapHead). h.weight) head [] in
      let count = length-append before (head ∷ []) in
      record { light = omega (arith, light, both, one); few = omega (arith, few, count) }

  along : (before heads : List SnapHead) → KeepLimits before → first_along (flaw_behind (snapshot_rule windows)) before heads ≡ None → KeepLimits (before ++ heads)
  along before [] keep none = rw append-nil keep
  along before (head ∷ heads) keep none = by (λ more rest. along (before ++ head ∷ []) heads more rest) (is_snapshot windows before head) refl none
    where
      by : (KeepLimits (before ++ head ∷ []) → first_along (flaw_behind (snapshot_rule windows)) (before ++ head ∷ []) heads ≡ None → KeepLimits ((before ++ head ∷ []) ++ heads)) → (holds : Bool) → is_snapshot windows before head ≡ holds
          → option_or (option_map (λ rule. record { row = length before + 1; rule = rule }) (if_broken 14 holds)) (first_along (flaw_behind (snapshot_rule windows)) (before ++ head ∷ []) heads) ≡ None
          → KeepLimits (before ++ head ∷ heads)
      by later true e rest = rw append_assoc at (later (one_more before head e) rest)
      by later false e rest = cc

  pub keep_limits : (heads : List SnapHead) → snapshot_flaw windows heads ≡ None → KeepLimits heads
  keep_limits heads none = along [] heads (record { light = omega arith; few = omega arith }) none
