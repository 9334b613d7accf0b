use Rattle.dv_window_keys.proofs.Vocabulary.{AreLeast, List, WindowItem, item_of, map, subst}
use Rattle.dv_window_keys.proofs.kept_items.kept_keys.Goals as goal

pub returns : goal.returns
returns g c =
    let items = c.in_ok-items.ensures {u = tt} in record {
      items_are = items.items;
      told = items.told;
      least = subst (λ (all : List WindowItem). AreLeast (map item_of all) c.in_ok-numbers.numbers.items) c.deref.ensures.value c.in_ok-numbers.ensures;
    }
