-- Deliveries to a link.
use Rattle.dv_hub_link.proofs.Vocabulary.{AreItems, AreLinkItems, Delivery, Link, List, Mapping, all_pass, ap, are_of_links, is_of_link, length, lt-ltb, true, ◌∙◌, ◌≡◌}

pub are_items : (mapping : Mapping) (items : List Delivery) → AreLinkItems mapping items → AreItems mapping items
are_items mapping items are = record { parent = Link are.link; declared = lt-ltb are.link (length mapping.links) are.declared; each = are.each; apart = are.apart }

pub items_of_links : (mapping : Mapping) (items : List Delivery) → AreLinkItems mapping items → are_of_links mapping items ≡ true
items_of_links mapping items are =
    all_pass (λ (item : Delivery). is_of_link mapping item.table) items
    (λ item has. ap (is_of_link mapping) (are.each item has).table ∙ lt-ltb are.link (length mapping.links) are.declared)
