use Rattle.model.proofs.Places.{inodes_are_no_maps, maps_are_no_data, inodes_are_no_data}
use Rattle.model.proofs.Addresses.{data_places, inode_places}
use Rattle.layout.proofs.geometry.places_are_one_to_one.Goals as goal

pub returns : goal.returns
returns c = record {
  data_blocks = data_places;
  inodes = inode_places;
  maps_and_inodes = λ geo ok g n. inodes_are_no_maps geo ok n g;
  maps_and_data = maps_are_no_data;
  inodes_and_data = inodes_are_no_data;
}
