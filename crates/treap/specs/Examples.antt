-- Document 01's examples A to H as one table: what is given of each, and what the definitions must make of it; fills are by document 02, N8.
-- Behind it the image of two keys of which one is measured (document 02, N4). The order is 3 throughout. Assumes nothing.
use Rattle.std.specs.Prelude.{cond, not, List, [], ◌∷◌, ◌++◌, map, ℕ, suc, eqb, pos, neg_ℤ, length, take}
use Rattle.lists.specs.Lists.{keep, member}
use Rattle.measure.specs.Measure.{Measure, unmeasured}
use Rattle.treap.specs.Levels.{rank, count, leader}
use Rattle.treap.specs.Blocks.{Block, blocks, parents, fill, blocks_met, blocks_met_by_all}
use Rattle.treap.specs.Slots.{slots_of}
use Rattle.treap.specs.Image.{image}

-- What an example gives.
pub record Given : Type 0 where
  -- the keys, rising
  pub keys : List ℕ
  -- the same keys, each before all that it outranks
  pub ranked : List ℕ
  -- keys to look up
  pub sought : List ℕ
  -- how many slots, and the home that all keys share
  pub slots : ℕ
  pub home : ℕ
  -- keys to delete
  pub deleted : List ℕ
  -- how many bytes of the image are asked for: one more than it has where they are written here, so that all are
  pub bytes : ℕ

-- A block's name.
pub record Name : Type 0 where
  pub leader_key : ℕ
  pub level : ℕ

-- What the definitions make of it: a number for each key, rising; the blocks in image order; for each block the names
-- of its parents; the fill; the number of blocks met by each lookup, and by all of them; the slots, and the slots after the
-- deletions; the image's bytes, as many as are written.
pub record Outcome : Type 0 where
  pub ranks : List ℕ
  pub counts : List ℕ
  pub leaders : List ℕ
  pub blocks : List Block
  pub parents : List (List Name)
  pub fill : ℕ
  pub met : List ℕ
  pub met_by_all : ℕ
  pub before : List ℕ
  pub after : List ℕ
  pub image : List ℕ

pub record Example : Type 0 where
  pub given : Given
  pub outcome : Outcome

-- "Priorities .. are written here": a key's priority is the number of keys from it on in the written order;
-- zero for a key that is not in it.
abbrev pub written : List ℕ → ℕ → ℕ
written [] k = 0
written (x ∷ xs) k = cond (eqb k x) (suc (length xs)) (written xs k)

abbrev pub name_of : Block → Name
name_of b = record { leader_key = b.leader_key; level = b.level }

-- The slots once the deleted keys have left: those of the keys that stay.
abbrev pub slots_after : (ℕ → ℕ) → Given → List ℕ
slots_after p g = slots_of p (λ k. g.home) g.slots (keep (λ k. not (member k g.deleted)) g.keys)

-- What the definitions make of an example.
abbrev pub outcome_of : Given → Outcome
outcome_of g =
    let p = written g.ranked in
    let ks = g.keys in
    record {
      ranks = map (rank 3 p ks) ks;
      counts = map (count 3 p ks) ks;
      leaders = map (leader 3 p ks) ks;
      blocks = blocks 3 p ks;
      parents = map (λ b. map name_of (parents 3 p ks b)) (blocks 3 p ks);
      fill = fill 3 (length ks) (length (blocks 3 p ks));
      met = map (blocks_met 3 p ks) g.sought;
      met_by_all = blocks_met_by_all 3 p ks g.sought;
      before = slots_of p (λ k. g.home) g.slots ks;
      after = slots_after p g;
      image = take g.bytes (image 3 p (λ k. unmeasured) ks);
    }

-- Keys with their written order, where neither lookups nor slots are asked for, and what is then made of them.
abbrev shape : List ℕ → List ℕ → Given
shape ks ranked = record { keys = ks; ranked = ranked; sought = []; slots = 0; home = 0; deleted = []; bytes = 0 }

abbrev shaped : List ℕ → List ℕ → List ℕ → List Block → List (List Name) → ℕ → Outcome
shaped rs cs ls bs ps full = record { ranks = rs; counts = cs; leaders = ls; blocks = bs; parents = ps; fill = full; met = []; met_by_all = 0; before = []; after = []; image = [] }

abbrev named : ℕ → ℕ → Name
named v i = record { leader_key = v; level = i }

abbrev holds : ℕ → ℕ → List ℕ → Block
holds v i ks = record { leader_key = v; level = i; held = ks }

-- The same with the bytes of the image.
abbrev imaged : ℕ → Given → Given
imaged n g =
    record {
      keys = g.keys;
      ranked = g.ranked;
      sought = g.sought;
      slots = g.slots;
      home = g.home;
      deleted = g.deleted;
      bytes = n;
    }

abbrev with_image : List ℕ → Outcome → Outcome
with_image bytes o =
    record {
      ranks = o.ranks;
      counts = o.counts;
      leaders = o.leaders;
      blocks = o.blocks;
      parents = o.parents;
      fill = o.fill;
      met = o.met;
      met_by_all = o.met_by_all;
      before = o.before;
      after = o.after;
      image = bytes;
    }

-- Number 5 as a key, and no key, in eight bytes.
abbrev five_in_bytes : List ℕ
five_in_bytes = 5 ∷ 0 ∷ 0 ∷ 0 ∷ 0 ∷ 0 ∷ 0 ∷ 0 ∷ []

abbrev none_in_bytes : List ℕ
none_in_bytes = 0 ∷ 0 ∷ 0 ∷ 0 ∷ 0 ∷ 0 ∷ 0 ∷ 0 ∷ []

-- A. No keys: no block, a 15-byte image.
abbrev none : Example
none =
    record {
      given = imaged 16 (shape [] []);
      outcome = with_image (76 ∷ 72 ∷ 3 ∷ 0 ∷ 0 ∷ 0 ∷ 0 ∷ none_in_bytes) (shaped [] [] [] [] [] 0);
    }

-- B. Key 5: rank 0, count 1, one block (5, 0). "B's image (hexadecimal, `..` is seven zero bytes, `--` eight):
-- 4C48 03 0100 0100 05.. 4C42 05.. 0000 0100 4C4E 05.. -- -- 0000 0100".
abbrev lone : Example
lone =
    record {
      given = imaged 60 (shape (5 ∷ []) (5 ∷ []));
      outcome =
          with_image
          ((0x4C ∷ 0x48 ∷ 3 ∷ 1 ∷ 0 ∷ 1 ∷ 0 ∷ five_in_bytes)
          ++ (0x4C ∷ 0x42 ∷ five_in_bytes)
          ++ (0 ∷ 0 ∷ 1 ∷ 0 ∷ [])
          ++ (0x4C ∷ 0x4E ∷ five_in_bytes)
          ++ none_in_bytes
          ++ none_in_bytes
          ++ (0 ∷ 0 ∷ 1 ∷ 0 ∷ []))
          (shaped (0 ∷ []) (1 ∷ []) (0 ∷ []) (holds 5 0 (5 ∷ []) ∷ []) ([] ∷ []) 20);
    }

-- C. 5, 9; 9 outranks 5: ranks 0 and 1, one block (9, 1).
abbrev pair : Example
pair =
    record {
      given = shape (5 ∷ 9 ∷ []) (9 ∷ 5 ∷ []);
      outcome = shaped (0 ∷ 1 ∷ []) (1 ∷ 1 ∷ []) (9 ∷ 0 ∷ []) (holds 9 1 (5 ∷ 9 ∷ []) ∷ []) ([] ∷ []) 40;
    }

-- D. 1 to 4, priorities falling: ranks 2, 1, 0, 0; counts 1, 1, 2, 1; leaders 0, 1, 2, 2; blocks (1, 2) with 1, 2 and (2, 1)
-- with 3, 4.
abbrev chain : Example
chain =
    record {
      given = shape (1 ∷ 2 ∷ 3 ∷ 4 ∷ []) (1 ∷ 2 ∷ 3 ∷ 4 ∷ []);
      outcome =
          shaped (2 ∷ 1 ∷ 0 ∷ 0 ∷ []) (1 ∷ 1 ∷ 2 ∷ 1 ∷ []) (0 ∷ 1 ∷ 2 ∷ 2 ∷ [])
          (holds 1 2 (1 ∷ 2 ∷ []) ∷ holds 2 1 (3 ∷ 4 ∷ []) ∷ [])
          ([] ∷ (named 1 2 ∷ []) ∷ []) 44;
    }

-- E. 2 first, then 3, 4, 5, 6, 7, then 1: ranks of 1 to 7 are 0, 3, 2, 1, 1, 0, 0; blocks (2, 3): 2, 3; (3, 2): 4, 5; (2, 1): 1;
-- (5, 1): 6, 7. No block (2, 2). Lookup of 7 or 8 meets three blocks, of 1 two; all together meet four.
abbrev deep : Example
deep =
    record {
      given =
          record {
            keys = 1 ∷ 2 ∷ 3 ∷ 4 ∷ 5 ∷ 6 ∷ 7 ∷ [];
            ranked = 2 ∷ 3 ∷ 4 ∷ 5 ∷ 6 ∷ 7 ∷ 1 ∷ [];
            sought = 7 ∷ 8 ∷ 1 ∷ [];
            slots = 0;
            home = 0;
            deleted = [];
            bytes = 0;
          };
      outcome =
          record {
            ranks = 0 ∷ 3 ∷ 2 ∷ 1 ∷ 1 ∷ 0 ∷ 0 ∷ [];
            counts = 1 ∷ 1 ∷ 1 ∷ 2 ∷ 1 ∷ 2 ∷ 1 ∷ [];
            leaders = 2 ∷ 0 ∷ 2 ∷ 3 ∷ 3 ∷ 5 ∷ 5 ∷ [];
            blocks = holds 2 3 (2 ∷ 3 ∷ []) ∷ holds 3 2 (4 ∷ 5 ∷ []) ∷ holds 2 1 (1 ∷ []) ∷ holds 5 1 (6 ∷ 7 ∷ []) ∷ [];
            parents = [] ∷ (named 2 3 ∷ []) ∷ (named 2 3 ∷ []) ∷ (named 3 2 ∷ []) ∷ [];
            fill = 41;
            met = 3 ∷ 3 ∷ 2 ∷ [];
            met_by_all = 4;
            before = [];
            after = [];
            image = [];
          };
    }

-- F. Root 3, 2 and 4 below it, 1 under 2, 5 under 4: one block of five.
abbrev five : Example
five =
    record {
      given = shape (1 ∷ 2 ∷ 3 ∷ 4 ∷ 5 ∷ []) (3 ∷ 2 ∷ 4 ∷ 1 ∷ 5 ∷ []);
      outcome =
          shaped (0 ∷ 0 ∷ 1 ∷ 0 ∷ 0 ∷ []) (1 ∷ 2 ∷ 1 ∷ 2 ∷ 1 ∷ []) (3 ∷ 3 ∷ 0 ∷ 3 ∷ 3 ∷ [])
          (holds 3 1 (1 ∷ 2 ∷ 3 ∷ 4 ∷ 5 ∷ []) ∷ [])
          ([] ∷ []) 100;
    }

-- G. F with 6 under 5: blocks (3, 2): 3, 4; (3, 1): 1, 2; (4, 1): 5, 6. "Example G reads 46" (02, N8).
abbrev six : Example
six =
    record {
      given = shape (1 ∷ 2 ∷ 3 ∷ 4 ∷ 5 ∷ 6 ∷ []) (3 ∷ 2 ∷ 4 ∷ 1 ∷ 5 ∷ 6 ∷ []);
      outcome =
          shaped (0 ∷ 0 ∷ 2 ∷ 1 ∷ 0 ∷ 0 ∷ []) (1 ∷ 2 ∷ 1 ∷ 1 ∷ 2 ∷ 1 ∷ []) (3 ∷ 3 ∷ 0 ∷ 3 ∷ 4 ∷ 4 ∷ [])
          (holds 3 2 (3 ∷ 4 ∷ []) ∷ holds 3 1 (1 ∷ 2 ∷ []) ∷ holds 4 1 (5 ∷ 6 ∷ []) ∷ [])
          ([] ∷ (named 3 2 ∷ []) ∷ (named 3 2 ∷ []) ∷ []) 46;
    }

-- H. M = 3, two keys with home 2: slots 2 and 0, the outranking one in 2; delete that one and the other moves to slot 2.
abbrev wrapped : Example
wrapped =
    record {
      given = record { keys = 1 ∷ 2 ∷ []; ranked = 1 ∷ 2 ∷ []; sought = []; slots = 3; home = 2; deleted = 1 ∷ []; bytes = 0 };
      outcome =
          record {
            ranks = 1 ∷ 0 ∷ [];
            counts = 1 ∷ 1 ∷ [];
            leaders = 0 ∷ 1 ∷ [];
            blocks = holds 1 1 (1 ∷ 2 ∷ []) ∷ [];
            parents = [] ∷ [];
            fill = 40;
            met = [];
            met_by_all = 0;
            before = 2 ∷ 0 ∷ 1 ∷ [];
            after = 0 ∷ 0 ∷ 2 ∷ [];
            image = [];
          };
    }

-- Not of document 01's list: no priority is written, so all are equal, and the lesser key outranks.
abbrev tied : Example
tied =
    record {
      given = shape (5 ∷ 9 ∷ []) [];
      outcome = shaped (1 ∷ 0 ∷ []) (1 ∷ 1 ∷ []) (0 ∷ 5 ∷ []) (holds 5 1 (5 ∷ 9 ∷ []) ∷ []) ([] ∷ []) 40;
    }

-- Nor this: root 7; 6 and 8 below it; 3 under 6 and 11 under 8, each of these two with two keys on each side. Every block holds as many keys as
-- it can.
abbrev all_full : Example
all_full =
    record {
      given =
          shape (1 ∷ 2 ∷ 3 ∷ 4 ∷ 5 ∷ 6 ∷ 7 ∷ 8 ∷ 9 ∷ 10 ∷ 11 ∷ 12 ∷ 13 ∷ [])
          (7 ∷ 6 ∷ 8 ∷ 3 ∷ 11 ∷ 1 ∷ 2 ∷ 4 ∷ 5 ∷ 9 ∷ 10 ∷ 12 ∷ 13 ∷ []);
      outcome =
          shaped (0 ∷ 0 ∷ 1 ∷ 0 ∷ 0 ∷ 1 ∷ 2 ∷ 1 ∷ 0 ∷ 0 ∷ 1 ∷ 0 ∷ 0 ∷ [])
          (2 ∷ 1 ∷ 1 ∷ 2 ∷ 1 ∷ 2 ∷ 1 ∷ 2 ∷ 2 ∷ 1 ∷ 1 ∷ 2 ∷ 1 ∷ [])
          (3 ∷ 3 ∷ 7 ∷ 3 ∷ 3 ∷ 7 ∷ 0 ∷ 7 ∷ 11 ∷ 11 ∷ 7 ∷ 11 ∷ 11 ∷ [])
          (holds 7 2 (3 ∷ 6 ∷ 7 ∷ 8 ∷ 11 ∷ []) ∷ holds 3 1 (1 ∷ 2 ∷ 4 ∷ 5 ∷ []) ∷ holds 11 1 (9 ∷ 10 ∷ 12 ∷ 13 ∷ []) ∷ [])
          ([] ∷ (named 7 2 ∷ []) ∷ (named 7 2 ∷ []) ∷ []) 100;
    }

abbrev pub examples : List Example
examples = none ∷ lone ∷ pair ∷ chain ∷ deep ∷ five ∷ six ∷ wrapped ∷ tied ∷ all_full ∷ []

-- The image of example C's keys where 5 is measured (document 02, N4), length 26,500 and correction −250, and 9 is not:
-- 4C48 03 0200 0100 09.. 4C42 09.. 0100 0200 4C4D 05.. -- -- 0000 0100 84670000 8E12 4C4E 09.. 05.. -- 0100 0100.
abbrev pub five_measured : ℕ → Measure
five_measured key = cond (eqb key 5) (record { length = 26500; correction = neg_ℤ (pos 250) }) unmeasured

abbrev nine_in_bytes : List ℕ
nine_in_bytes = 9 ∷ 0 ∷ 0 ∷ 0 ∷ 0 ∷ 0 ∷ 0 ∷ 0 ∷ []

abbrev pub measured_image : List ℕ
measured_image =
    (0x4C ∷ 0x48 ∷ 3 ∷ 2 ∷ 0 ∷ 1 ∷ 0 ∷ nine_in_bytes)
    ++ (0x4C ∷ 0x42 ∷ nine_in_bytes)
    ++ (1 ∷ 0 ∷ 2 ∷ 0 ∷ [])
    ++ (0x4C ∷ 0x4D ∷ five_in_bytes)
    ++ none_in_bytes
    ++ none_in_bytes
    ++ (0 ∷ 0 ∷ 1 ∷ 0 ∷ 0x84 ∷ 0x67 ∷ 0 ∷ 0 ∷ 0x8E ∷ 0x12 ∷ [])
    ++ (0x4C ∷ 0x4E ∷ nine_in_bytes)
    ++ five_in_bytes
    ++ none_in_bytes
    ++ (1 ∷ 0 ∷ 1 ∷ 0 ∷ [])
