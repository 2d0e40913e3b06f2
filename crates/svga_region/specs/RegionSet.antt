-- What contracts see of the regions.
use Rattle.std.specs.Prelude.{ℕ, List, Option, refl}
use Rattle.std.specs.Coded.{Coded, code_by, coded×, coded_ℕ, coded_list, coded_option}
use Rattle.svga_model.specs.Codes.{coded_regions}
use Rattle.svga_model.specs.Regions.{Places, Regions, places_of, region_places}

-- a chain that is being read for a region
pub record Chain : Type 0 where
  pub id : ℕ
  -- how many descriptors were read, and the pages that they list
  pub count : ℕ
  pub pages : List ℕ
  -- the table page that is to be given next, none where the end was read
  pub wants : Option ℕ

-- how many pages there are of the guest and of its framebuffer, the regions, and the chain that is begun,
-- if one is
pub record RegionSet : Type 0 where
  pub guest : ℕ
  pub frame : ℕ
  pub regions : Regions
  pub chain : Option Chain

-- the list of a region, also of the framebuffer's, if there is such a region
abbrev pub list_of : RegionSet → ℕ → Option Places
list_of r id = places_of r.frame r.regions id

-- the same, empty where there is none
abbrev pub places_in : RegionSet → ℕ → Places
places_in r id = region_places r.frame r.regions id

-- the code of a chain, by which a type that is seen as one tells its values apart
abbrev pub coded_chain : Coded Chain
coded_chain = code_by (ℕ × (ℕ × (List ℕ × Option ℕ)))
    (coded× coded_ℕ (coded× coded_ℕ (coded× (coded_list coded_ℕ) (coded_option coded_ℕ))))
    (λ c. (c.id, (c.count, (c.pages, c.wants)))) (λ p. record
    { id = p.0; count = p.1.0; pages = p.1.1.0; wants = p.1.1.1 }) (λ _. refl)

-- the code of the regions
abbrev pub coded_set : Coded RegionSet
coded_set = code_by (ℕ × (ℕ × (Regions × Option Chain)))
    (coded× coded_ℕ (coded× coded_ℕ (coded× coded_regions (coded_option coded_chain))))
    (λ r. (r.guest, (r.frame, (r.regions, r.chain))))
    (λ p. record { guest = p.0; frame = p.1.0; regions = p.1.1.0; chain = p.1.1.1 }) (λ _. refl)
