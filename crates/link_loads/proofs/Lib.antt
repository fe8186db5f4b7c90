pub mod AlongChain
