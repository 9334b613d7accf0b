-- Entries that compare as equal are equal.
use Rattle.dv_catalog.proofs.Vocabulary.{Bool, Decides, Decides-and, Decides-eqb, Decides-like, FeedDef, HubDef, LinkDef, List, Parent, PathDef, ap, bytes_eq-Decides, nat_eq, pointwise, refl, slice_eq-Decides, ℕ, ◌&&◌, ◌==◌, ◌≡◌}

numbers_decide : (a b : List ℕ) → Decides (pointwise nat_eq a b) (a ≡ b)
numbers_decide a b = bytes_eq-Decides a b

texts_decide : (a b : List (List ℕ)) → Decides (pointwise (pointwise nat_eq) a b) (a ≡ b)
texts_decide a b = slice_eq-Decides numbers_decide a b _ refl

keys_decide : (a b : List (List (List ℕ))) → Decides (pointwise (pointwise (pointwise nat_eq)) a b) (a ≡ b)
keys_decide a b = slice_eq-Decides texts_decide a b _ refl

hub_decides : (a b : HubDef) → Decides (pointwise nat_eq a.name b.name && (a.parts == b.parts)) (a ≡ b)
hub_decides a b =
    Decides-like _ (λ (name, parts). λ i. record { name = name i; parts = parts i }) (λ e. (ap (λ x. x.name) e, ap (λ x. x.parts) e))
    (Decides-and _ _ (numbers_decide a.name b.name) (Decides-eqb a.parts b.parts))

pub hubs_decide : (a b : List HubDef) (r : Bool) → r ≡ pointwise (λ x y. pointwise nat_eq x.name y.name && (x.parts == y.parts)) a b → Decides r (a ≡ b)
hubs_decide a b r e = slice_eq-Decides hub_decides a b r e

link_decides : (a b : LinkDef) → Decides (pointwise nat_eq a.name b.name && pointwise nat_eq a.hubs b.hubs) (a ≡ b)
link_decides a b =
    Decides-like _ (λ (name, hubs). λ i. record { name = name i; hubs = hubs i }) (λ e. (ap (λ x. x.name) e, ap (λ x. x.hubs) e))
    (Decides-and _ _ (numbers_decide a.name b.name) (numbers_decide a.hubs b.hubs))

pub links_decide : (a b : List LinkDef) (r : Bool) → r ≡ pointwise (λ x y. pointwise nat_eq x.name y.name && pointwise nat_eq x.hubs y.hubs) a b → Decides r (a ≡ b)
links_decide a b r e = slice_eq-Decides link_decides a b r e

path_decides : (a b : PathDef) → Decides (pointwise nat_eq a.name b.name && (pointwise nat_eq a.feeds b.feeds && pointwise nat_eq a.via b.via)) (a ≡ b)
path_decides a b =
    Decides-like _ (λ (name, (feeds, via)). λ i. record { name = name i; feeds = feeds i; via = via i }) (λ e. (ap (λ x. x.name) e, (ap (λ x. x.feeds) e, ap (λ x. x.via) e)))
    (Decides-and _ _ (numbers_decide a.name b.name) (Decides-and _ _ (numbers_decide a.feeds b.feeds) (numbers_decide a.via b.via)))

pub paths_decide : (a b : List PathDef) (r : Bool) → r ≡ pointwise (λ x y. pointwise nat_eq x.name y.name && (pointwise nat_eq x.feeds y.feeds && pointwise nat_eq x.via y.via)) a b → Decides r (a ≡ b)
paths_decide a b r e = slice_eq-Decides path_decides a b r e

abbrev feed_eq : (Parent → Parent → Bool) → FeedDef → FeedDef → Bool
feed_eq same a b =
    pointwise nat_eq a.name b.name
    && (pointwise nat_eq a.source b.source
    && (same a.parent b.parent
    && (pointwise (pointwise (pointwise nat_eq)) a.keys b.keys
    && (pointwise (pointwise nat_eq) a.sub b.sub
    && (pointwise (pointwise nat_eq) a.attrs b.attrs && (pointwise (pointwise nat_eq) a.ignore b.ignore && pointwise nat_eq a.driver b.driver))))))

feed_decides : (same : Parent → Parent → Bool) → ((a b : Parent) → Decides (same a b) (a ≡ b)) → (a b : FeedDef) → Decides (feed_eq same a b) (a ≡ b)
feed_decides same parent_decides a b =
    Decides-like _
    (λ (name, (source, (parent, (keys, (sub, (attrs, (ignore, driver))))))). λ i. record {
      name = name i;
      source = source i;
      parent = parent i;
      keys = keys i;
      sub = sub i;
      attrs = attrs i;
      ignore = ignore i;
      driver = driver i;
    })
    (λ e. (ap (λ x. x.name) e, (ap (λ x. x.source) e, (ap (λ x. x.parent) e, (ap (λ x. x.keys) e, (ap (λ x. x.sub) e, (ap (λ x. x.attrs) e, (ap (λ x. x.ignore) e, ap (λ x. x.driver) e))))))))
    (Decides-and _ _ (numbers_decide a.name b.name)
    (Decides-and _ _ (numbers_decide a.source b.source)
    (Decides-and _ _ (parent_decides a.parent b.parent)
    (Decides-and _ _ (keys_decide a.keys b.keys)
    (Decides-and _ _ (texts_decide a.sub b.sub)
    (Decides-and _ _ (texts_decide a.attrs b.attrs) (Decides-and _ _ (texts_decide a.ignore b.ignore) (numbers_decide a.driver b.driver))))))))

pub feeds_decide : (same : Parent → Parent → Bool) → ((a b : Parent) → Decides (same a b) (a ≡ b)) → (a b : List FeedDef) (r : Bool) → r ≡ pointwise (feed_eq same) a b → Decides r (a ≡ b)
feeds_decide same parent_decides a b r e = slice_eq-Decides (feed_decides same parent_decides) a b r e
