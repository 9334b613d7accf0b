use Rattle.dv_hub_link.proofs.Vocabulary.{HashedList, LentList, ap, brought_lists, delivered, filter, hashes_of, is_new, kept, least_rivals, length, list_all, list_all-map, map, nat_lt, refs_fit, standing, sym, told, ◌∙◌}
use Rattle.dv_hub_link.proofs.{Brought.kept_are, Brought.kept_new, Brought.none_rival, Brought.some_rival, Hashables.missing_none, Hashables.new_feeds, Hashables.new_fit}
use Rattle.dv_hub_link.proofs.additions.new_lists.Goals as goal

pub brought_lists-requires-clause-missing : goal.brought_lists-requires-clause-missing
brought_lists-requires-clause-missing g c κs within = rw c.items.ensures c.requires.missing

pub brought_lists-requires-clause-items : goal.brought_lists-requires-clause-items
brought_lists-requires-clause-items g c κs within = rw c.items.ensures c.requires.items

pub brought_lists-requires-clause-hashed : goal.brought_lists-requires-clause-hashed
brought_lists-requires-clause-hashed g c κs within = rw c.items.ensures c.requires.hashed

pub returns-in-Some-clause-collision : goal.returns-in-Some-clause-collision
returns-in-Some-clause-collision g c =
    let hashes = hashes_of g.H.KeyDigest.function in
    let held = g.T.HoldsLists.held c.args.table.now in
    let lists = ap (map told) c.items-3.ensures ∙ c.in_ok-lists.ensures ∙ ap (λ l. brought_lists c.args.catalog.now hashes (delivered l)) c.items.ensures in
    some_rival c.args.catalog.now hashes held c.requires.held (delivered c.args.items.now) c.in-Some.rivals (ap (least_rivals held) (sym lists) ∙ sym c.in_ok-rivals.ensures ∙ c.in-Some.is)

pub returns : goal.returns
returns g c =
    let hashes = hashes_of g.H.KeyDigest.function in
    let held = g.T.HoldsLists.held c.args.table.now in
    let items = delivered c.args.items.now in
    let lists = c.in_ok-lists.ensures ∙ ap (λ l. brought_lists c.args.catalog.now hashes (delivered l)) c.items.ensures in
    let are = c.in_ok-made.ensures ∙ (λ i. kept (c.items-4.ensures i) (c.deref-2.ensures.value i))
    ∙ ap (kept c.in_ok-lists.lists) (c.in_ok-standings.ensures ∙ ap (map (λ (list : LentList). standing held (told list))) c.items-2.ensures)
    ∙ kept_new held c.in_ok-lists.lists ∙ ap (filter (is_new held)) lists ∙ kept_are c.args.catalog.now hashes held items (missing_none c.args.catalog.now c.note_valid.ensures items c.requires.items) in
    record {
      apart = none_rival c.args.catalog.now hashes held c.requires.held items (ap (least_rivals held) (sym (ap (map told) c.items-3.ensures ∙ lists)) ∙ sym c.in_ok-rivals.ensures ∙ c.in_default.is);
      lists = are;
      feeds = sym (list_all-map (λ (list : HashedList). nat_lt list.feed (length c.args.catalog.now.feeds)) told c.in_ok-made.made)
          ∙ ap (list_all (λ list. nat_lt list.feed (length c.args.catalog.now.feeds))) are ∙ new_feeds c.args.catalog.now c.note_valid.ensures hashes held items c.requires.items;
      fits = sym (list_all-map (λ (list : HashedList). refs_fit list.refs) told c.in_ok-made.made) ∙ ap (list_all (λ list. refs_fit list.refs)) are ∙ new_fit c.args.catalog.now c.note_valid.ensures hashes held items c.requires.items;
      collision = tt;
    }
