-- The rules of a link's row are those of a row by itself, of hash keys that stand once, and of the weight.
use Rattle.dv_store_rules.proofs.Vocabulary.{AreClear, Bool, Hashes, HubRow, Indexed, IsKnown, Known, KnownTables, LinkRow, List, Option, Some, are_link_rows, are_named, are_references, bytes_eq, first_stands, has_number, is_loaded, is_none, length, link_cmp, link_early, link_form, link_late}
use Rattle.dv_store_rules.proofs.Vocabulary.{link_place, link_rule, list_all, list_any, map, none_asked, or_none, own_of, parent_hubs, rules, source_by, sym, text_weight, true, turning_rule, zero_key, zip, ℕ, ◌*◌, ◌+◌, ◌||◌, ◌∙◌, ◌≡◌}
use Rattle.dv_store_rules.proofs.{RuleParts.none_found, RuleParts.owns_clear, RuleParts.source_told, RuleParts.turns_clear, Apart.once_placed, Chains.all_in_order}
use Rattle.dv_catalog.specs.declared.tables.TableId.TheVariants.{Link}
use Rattle.dv_catalog.specs.declared.entries.Parent.TheVariants as parents

-- what a row weighs
abbrev pub link_weight : LinkRow → ℕ
link_weight row = 128 + text_weight row.source + 32 * length row.hubs

-- the rules of a row by itself
abbrev pub link_own : Hashes → ℕ → List (Indexed HubRow) → List ℕ → List ℕ → List (List ℕ) → LinkRow → Bool → Option ℕ
link_own hashes width tables hubs loads sources = own_of (link_early hubs loads) none_asked (link_late sources tables hubs) hashes width

-- all its rules, in their parts
abbrev pub link_told : Hashes → ℕ → ℕ → List (Indexed HubRow) → List ℕ → List ℕ → List (List ℕ) → List LinkRow → LinkRow → Option ℕ
link_told hashes width weight tables hubs loads sources = turning_rule link_place link_cmp (link_own hashes width tables hubs loads sources) (λ last row. is_none last) 10 link_weight weight

module _ (hashes : Hashes) (width : ℕ) (known : KnownTables) (read : Known) (is : IsKnown hashes width known read) (link : ℕ) (tables : List (Indexed HubRow)) (hubs loads : List ℕ) (sources : List (List ℕ))
    (held : tables ≡ known.hubs.now) (joined : hubs ≡ parent_hubs known.catalog.now (parents.Link link))
    (told : (load : ℕ) → has_number loads load ≡ is_loaded known.heads.now load) (from : sources ≡ map (λ feed. source_by (Some feed)) known.catalog.now.feeds) where
  named : (digests : List (List ℕ)) → are_references read link digests ≡ are_named tables hubs width digests
  named digests =
      (λ i. list_all (λ (hub, digest). bytes_eq digest (zero_key (is.width i)) || list_any (λ row. bytes_eq row.digest digest) (is.hubs hub i)) (zip (parent_hubs (is.mapping i) (parents.Link link)) digests))
      ∙ (λ i. are_named (sym held i) (sym joined i) width digests)

  pub link_same : (before : List LinkRow) (row : LinkRow) → link_told hashes width known.weight tables hubs loads sources before row ≡ link_rule read link before row
  link_same before row =
      let once = sym (none_found (λ (other : LinkRow). bytes_eq other.digest row.digest) before) in
      rw (named row.hubs, is.width, is.mapping, is.heads, is.weight, joined, sym (told row.load), source_told known.catalog.now sources row.source from, once) (search rules)

-- where no row breaks a rule, the rows are such as a table has
pub link_placed : (hashes : Hashes) (width weight : ℕ) (tables : List (Indexed HubRow)) (hubs loads : List ℕ) (sources : List (List ℕ)) (rows : List LinkRow)
    → AreClear (link_told hashes width weight tables hubs loads sources) rows (length rows) → are_link_rows rows ≡ true
link_placed hashes width weight tables hubs loads sources rows clear =
    let own = link_own hashes width tables hubs loads sources in
    once_placed link_place 10 rows (turns_clear link_place link_cmp own (λ last row. is_none last) 10 link_weight weight rows (length rows) clear)
    (all_in_order link_place link_cmp own (λ row behind none. first_stands loads (link_form hubs width row) row.load behind (or_none _ _ none).0) rows
    (owns_clear link_place link_cmp own (λ last row. is_none last) 10 link_weight weight rows (length rows) clear))
